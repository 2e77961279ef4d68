-- The part that a message is: its numbers are those of the lent buffer.
use mathlib.Core.Path.{◌≡◌}
use mathlib.Core.List.{List}
use Prim.Native.Nat.{ℕ, ◌+◌, ◌≤◌}
use native.Mathlib.Omega.{arith}
use lib.ListN.{take}
use lib.Seq.{get_or-take}
use Rattle.meaning.specs.Bytes.{part_of, number, num}
use Rattle.meaning.proofs.Numbers.{number_same}

pub num_part : (buf : List ℕ) (len at : ℕ) → at + 4 ≤ len → num (part_of buf len) at ≡ number buf at
num_part buf len at h = number_same (take len buf) buf at (λ i a b. get_or-take len buf i 0 (omega arith))
