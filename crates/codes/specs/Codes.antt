-- An answer as one number for C.
use Rattle.std.specs.Prelude.{ℕ, ◌+◌, ◌*◌, ◌≤◌}
use Rattle.meaning.specs.Answer.{Result, accepted, refused}

-- what is given times 32; or a refusal's place times 32 and its number, which is below 32
abbrev pub code : Result ℕ → ℕ
code (accepted n) = n * 32
code (refused n p) = p * 32 + n

-- what is given, or the place, is small enough
abbrev pub Fits : Result ℕ → Type 0
Fits (accepted n) = n ≤ 4294967296
Fits (refused n p) = p ≤ 4294967296
