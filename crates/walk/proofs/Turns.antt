-- One turn of the walk: a structure, what is inside it, then the rest. Every walk of the code goes by these laws.
use mathlib.Core.Path.{◌≡◌, refl, ◌∙◌}
use mathlib.Core.List.{List, ◌∷◌, ◌++◌}
use Prim.Native.Nat.{ℕ, ◌+◌, ◌-◌, ◌≤◌, ◌<◌}
use native.Mathlib.Numerals.{add-one}
use native.Mathlib.Omega.{arith}
use Rattle.meaning.specs.Bytes.{Part}
use Rattle.meaning.specs.Answer.{Result, accepted, refused, and_then}
use Rattle.meaning.specs.Structure.{Row, structure_at}
use Rattle.meaning.specs.Walk.{Walked, walked, ahead, enter, walk}
use Rattle.meaning.proofs.Fuel.{walk_suc}
use Rattle.structure.proofs.Extents.{Reaches}

-- a walk with these rows in front
abbrev pub behind : List Row → Result Walked → Result Walked
behind xs w = and_then w (λ y. walked (xs ++ y.rows) y.next)

-- how many structures are left of n, once i are passed: one more than after the next, or none
pub left : {n i : ℕ} → i < n → n - i ≡ n - (i + 1) + 1
left h = omega (arith, h)

pub none_left : {n i : ℕ} → n ≤ i → n - i ≡ 0
none_left h = omega (arith, h)

-- the walk from p over n structures, with the code's numbers: n of them are left, then k
pub unfolded : (m : Part) (p d n k : ℕ) → n ≡ k + 1
    → walk m p d n ≡ enter (structure_at m p d) (λ r. walk m (p + r.size) (d + 1) r.members) (λ q. walk m q d k)
unfolded m p d n k h = simp (h, add-one k, add-one d) (walk_suc m p d k)

in_front : (r : Row) (xs : List Row) (w : Result Walked) → ahead r (behind xs w) ≡ behind (r ∷ xs) w
in_front r xs (accepted y) = refl
in_front r xs (refused k q) = refl

module _ (m : Part) (p d n n' : ℕ) (due : n ≡ n' + 1) where
  -- the structure is refused
  pub walk_refused : (k q : ℕ) → structure_at m p d ≡ refused k q → walk m p d n ≡ refused k q
  walk_refused k q e = rw (unfolded m p d n n' due, e) refl

  module _ (size members : ℕ) (r : Reaches m p d size members) where
    -- the walk inside it, with the numbers that were read
    inside : walk m (p + r.row.size) (d + 1) r.row.members ≡ walk m (p + size) (d + 1) members
    inside = rw (r.size, r.members) refl

    -- it met a fault
    pub walk_halt : (k q : ℕ) → walk m (p + size) (d + 1) members ≡ refused k q → walk m p d n ≡ refused k q
    walk_halt k q w = rw (unfolded m p d n n' due, r.there, inside ∙ w) refl

    -- it came to q
    pub walk_on : (rows : List Row) (q : ℕ) → walk m (p + size) (d + 1) members ≡ walked rows q
        → walk m p d n ≡ behind (r.row ∷ rows) (walk m q d n')
    walk_on rows q w = rw (unfolded m p d n n' due, r.there, inside ∙ w) (in_front r.row rows (walk m q d n'))
