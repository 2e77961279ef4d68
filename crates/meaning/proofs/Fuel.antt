-- The walk's fuel never shows: any fuel that is at least the number of bytes left gives the same walk, refused ones too.
-- So the walk of a part keeps two plain equations, by which code follows it. And a walk looks at nothing in front of its place,
-- nor at where the part starts.
use mathlib.Core.Path.{◌≡◌, refl, ap, ◌∙◌}
use mathlib.Core.List.{List, [], ◌++◌}
use Prim.Native.Nat.{ℕ, zero, suc, ◌+◌, ◌≤◌}
use native.Mathlib.Omega.{arith}
use lib.ListN.{get_or}
use Rattle.meaning.specs.Bytes.{Part, num, word}
use Rattle.meaning.specs.Answer.{Result, accepted, refused, and_then}
use Rattle.meaning.specs.Structure.{Row, structure_at}
use Rattle.meaning.specs.Walk.{Walked, walked, followed_by, ahead, enter, walk_fuel, walk}
use Rattle.meaning.proofs.Structures.{row_at_lem, structure_short, num_same}
use Rattle.meaning.proofs.Walks.{walks_fuel, walks_le}

-- the fuel falls by one at each call
fuel_rest : (s : Part) (f f' q d n : ℕ) (w : Result Walked)
    → ((p : ℕ) → q ≤ p → walk_fuel f s p d n ≡ walk_fuel f' s p d n)
    → ((rs : List Row) (p : ℕ) → w ≡ walked rs p → q ≤ p)
    → followed_by w (λ p. walk_fuel f s p d n) ≡ followed_by w (λ p. walk_fuel f' s p d n)
fuel_rest s f f' q d n (accepted x) ih h =
    ap (λ (v : Result Walked). and_then v (λ y. walked (x.rows ++ y.rows) y.next)) (ih x.next (h x.rows x.next refl))
fuel_rest s f f' q d n (refused k p) ih h = refl

fuel_step : (s : Part) (f f' p d n : ℕ) → s.end ≤ p + suc f → s.end ≤ p + suc f'
    → ((p d n : ℕ) → s.end ≤ p + f → s.end ≤ p + f' → walk_fuel f s p d n ≡ walk_fuel f' s p d n)
    → (t : Result Row) → structure_at s p d ≡ t
    → enter t (λ r. walk_fuel f s (p + r.size) (suc d) r.members) (λ q. walk_fuel f s q d n)
    ≡ enter t (λ r. walk_fuel f' s (p + r.size) (suc d) r.members) (λ q. walk_fuel f' s q d n)
fuel_step s f f' p d n h h' ih (accepted r) t =
    let g = row_at_lem s p d r t in
    let l = g.at_least in
    ap (ahead r)
    (ap (λ (w : Result Walked). followed_by w (λ q. walk_fuel f s q d n)) (ih (p + r.size) (suc d) r.members (omega arith) (omega arith))
    ∙ fuel_rest s f f' (p + r.size) d n (walk_fuel f' s (p + r.size) (suc d) r.members) (λ q k. ih q d n (omega arith) (omega arith))
    (λ rs q e. omega (arith, walks_le (walks_fuel f' s (p + r.size) (suc d) r.members rs q e))))
fuel_step s f f' p d n h h' ih (refused k q) t = refl

pub fuel : (f f' : ℕ) (s : Part) (p d n : ℕ) → s.end ≤ p + f → s.end ≤ p + f' → walk_fuel f s p d n ≡ walk_fuel f' s p d n
unfolding walk_fuel
fuel zero zero s p d zero h h' = refl
fuel zero zero s p d (suc n) h h' = refl
fuel zero (suc f') s p d zero h h' = refl
fuel zero (suc f') s p d (suc n) h h' = rw (structure_short s p d (omega arith)) refl
fuel (suc f) zero s p d zero h h' = refl
fuel (suc f) zero s p d (suc n) h h' = rw (structure_short s p d (omega arith)) refl
fuel (suc f) (suc f') s p d zero h h' = refl
fuel (suc f) (suc f') s p d (suc n) h h' =
    fuel_step s f f' p d n h h' (λ p d n k k'. fuel f f' s p d n k k') (structure_at s p d) refl

pub walk_zero : (s : Part) (p d : ℕ) → walk s p d 0 ≡ walked [] p
unfolding walk walk_fuel
walk_zero s p d = go s.end
  where
    go : (f : ℕ) → walk_fuel f s p d 0 ≡ walked [] p
    go zero = refl
    go (suc f) = refl

pub walk_suc : (s : Part) (p d n : ℕ)
    → walk s p d (suc n) ≡ enter (structure_at s p d) (λ r. walk s (p + r.size) (suc d) r.members) (λ q. walk s q d n)
unfolding walk walk_fuel
walk_suc s p d n =
    fuel s.end (suc s.end) s p d (suc n) (omega arith) (omega arith)

-- A WALK LOOKS AT NOTHING IN FRONT OF ITS PLACE, and not at where the part starts: only the header's fields are counted from there
module _ (s s' : Part) (lo : ℕ) (ends : s.end ≡ s'.end) (same : (i : ℕ) → lo ≤ i → get_or s.bytes i 0 ≡ get_or s'.bytes i 0) where
  num_behind : (at : ℕ) → lo ≤ at → num s at ≡ num s' at
  num_behind at h = num_same s s' at (λ i a b. same i (omega arith))

  structure_behind : (p d : ℕ) → lo ≤ p → structure_at s p d ≡ structure_at s' p d
  unfolding structure_at word
  structure_behind p d h =
      rw (
        ends,
        num_behind p h,
        num_behind (p + 4) (omega arith),
        num_behind (p + 8) (omega arith),
        num_behind (p + 12) (omega arith),
        num_behind (p + 16) (omega arith),
        num_behind (p + 20) (omega arith),
      ) refl

  behind_step : (f p d c : ℕ) → lo ≤ p → ((p d c : ℕ) → lo ≤ p → walk_fuel f s p d c ≡ walk_fuel f s' p d c) → (t : Result Row)
      → enter t (λ r. walk_fuel f s (p + r.size) (suc d) r.members) (λ q. walk_fuel f s q d c)
      ≡ enter t (λ r. walk_fuel f s' (p + r.size) (suc d) r.members) (λ q. walk_fuel f s' q d c)
  behind_step f p d c h ih (accepted r) =
      ap (ahead r) (ap (λ (w : Result Walked). followed_by w (λ q. walk_fuel f s q d c)) (ih (p + r.size) (suc d) r.members (omega arith))
      ∙ rest (walk_fuel f s' (p + r.size) (suc d) r.members) (λ rs q e. omega (arith, walks_le (walks_fuel f s' (p + r.size) (suc d) r.members rs q e))))
    where
      rest : (w : Result Walked) → ((rs : List Row) (q : ℕ) → w ≡ walked rs q → p + r.size ≤ q)
          → followed_by w (λ q. walk_fuel f s q d c) ≡ followed_by w (λ q. walk_fuel f s' q d c)
      rest (accepted x) k =
          ap (λ (v : Result Walked). and_then v (λ y. walked (x.rows ++ y.rows) y.next)) (ih x.next d c (omega (arith, k x.rows x.next refl)))
      rest (refused k q) l = refl
  behind_step f p d c h ih (refused k q) = refl

  fuel_behind : (f p d c : ℕ) → lo ≤ p → walk_fuel f s p d c ≡ walk_fuel f s' p d c
  unfolding walk_fuel
  fuel_behind zero p d zero h = refl
  fuel_behind zero p d (suc c) h = refl
  fuel_behind (suc f) p d zero h = refl
  fuel_behind (suc f) p d (suc c) h =
      rw (structure_behind p d h) (behind_step f p d c h (λ p d c k. fuel_behind f p d c k) (structure_at s' p d))

  pub walk_behind : (p d c : ℕ) → lo ≤ p → walk s p d c ≡ walk s' p d c
  unfolding walk
  walk_behind p d c h = ap (λ (f : ℕ). walk_fuel f s p d c) ends ∙ fuel_behind s'.end p d c h

abbrev pub from : ℕ → Part → Part
from n s = record { bytes = s.bytes; start = n; end = s.end }

pub structure_from : (n : ℕ) (s : Part) (p d : ℕ) → structure_at (from n s) p d ≡ structure_at s p d
structure_from n s p d = structure_behind (from n s) s 0 refl (λ i h. refl) p d (omega arith)

pub walk_from : (n : ℕ) (s : Part) (p d c : ℕ) → walk (from n s) p d c ≡ walk s p d c
walk_from n s p d c = walk_behind (from n s) s 0 refl (λ i h. refl) p d c (omega arith)
