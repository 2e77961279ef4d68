-- The version of the library, as one number.
use Rattle.std.specs.Prelude.{ℕ, ◌+◌, ◌*◌}

abbrev pub major : ℕ
major = 0

abbrev pub minor : ℕ
minor = 5

abbrev pub patch : ℕ
patch = 0

-- minor and patch have three digits each
abbrev pub library_version : ℕ
library_version = major * 1000000 + minor * 1000 + patch
