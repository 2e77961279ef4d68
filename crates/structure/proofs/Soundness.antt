-- When a structure is sound.
use mathlib.Core.Path.{◌≡◌, sym}
use mathlib.Core.Bool.{true, false}
use mathlib.Core.List.{List}
use Prim.Native.Nat.{ℕ, ◌+◌, ◌%◌, ◌≤◌, ◌<◌}
use native.Mathlib.Omega.{arith}
use lib.ListN.{length}
use lib.Dec.{leb, eqb}
use Rattle.meaning.specs.Bytes.{whole}
use Rattle.meaning.proofs.Tests.{and_true, is_false}
use Rattle.meaning.proofs.Structures.{rule_16}
use Rattle.structure.specs.Rows.{sound_in}

module _ (s : List ℕ) (p t n : ℕ) where
  -- no type allows a length below 16
  least : sound_in (whole s) p t n ≡ true → 16 ≤ n
  unfolding sound_in
  least e = rule_16 t n _ _ _ (and_true (eqb (n % 4) 0) _ (and_true (leb (p + n) (length s)) _ e).1).1

  pub tiny : n < 16 → false ≡ sound_in (whole s) p t n
  tiny h = sym (is_false _ (λ e. omega (arith, least e)))
