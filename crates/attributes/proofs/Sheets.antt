-- One number of a sheet after the other: what was seen so far, and the tests of those from the k-th on.
use mathlib.Core.Path.{◌≡◌, refl}
use mathlib.Core.Bool.{Bool, not, ◌&&◌}
use mathlib.Core.List.{List}
use Prim.Native.Nat.{ℕ, ◌+◌, ◌≤◌, ◌<◌}
use lib.ListN.{length, get_or, drop}
use lib.Dec.{leb, eqb}
use borrow.Author.Tests.{eq-eqb}
use Rattle.meaning.specs.Structure.{small}
use Rattle.meaning.specs.Trace.{absent, identifiers_ok, sheet_ok}
use Rattle.meaning.proofs.Lists.{rest_none, rest_next}
use Rattle.std.proofs.Math.Bool.{and_assoc, and-true}

module _ (seen : Bool) (l : List ℕ) (k : ℕ) where
  pub absent_all : (x : ℕ) → length l ≤ k → (seen && absent x (drop k l)) ≡ seen
  unfolding absent
  absent_all x h = rw (rest_none l k h) (and-true seen)

  pub absent_more : (x : ℕ) → k < length l → (seen && absent x (drop k l)) ≡ ((seen && not (eqb x (get_or l k 0))) && absent x (drop (k + 1) l))
  unfolding absent
  absent_more x h = rw (rest_next l k h, and_assoc seen (not (eqb x (get_or l k 0))) (absent x (drop (k + 1) l))) refl

  pub identifiers_all : length l ≤ k → (seen && identifiers_ok (drop k l)) ≡ seen
  unfolding identifiers_ok
  identifiers_all h = rw (rest_none l k h) (and-true seen)

  -- the three tests of one number in a group of their own
  grouped : (a b c d : Bool) → (seen && (a && (b && (c && d)))) ≡ ((seen && ((a && b) && c)) && d)
  grouped a b c d = rw (and_assoc seen ((a && b) && c) d, and_assoc (a && b) c d, and_assoc a b (c && d)) refl

  pub identifiers_more : (alone : Bool) → k < length l → alone ≡ absent (get_or l k 0) (drop (k + 1) l)
      → (seen && identifiers_ok (drop k l)) ≡ ((seen && ((leb 1 (get_or l k 0) && small (get_or l k 0)) && alone)) && identifiers_ok (drop (k + 1) l))
  unfolding identifiers_ok
  identifiers_more alone h e = rw (e, rest_next l k h) (grouped (leb 1 (get_or l k 0)) (small (get_or l k 0)) (absent (get_or l k 0) (drop (k + 1) l)) (identifiers_ok (drop (k + 1) l)))

pub sheet_ok_as : (l : List ℕ) → length l ≡ 8 → sheet_ok l ≡ identifiers_ok l
unfolding sheet_ok
sheet_ok_as l h = rw (eq-eqb (length l) 8 h) refl
