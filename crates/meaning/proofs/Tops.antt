-- Top-level structures and direct members of a walk, one after the other, and what each top-level structure is.
use mathlib.Core.Path.{◌≡◌, refl, sym, ap}
use mathlib.Core.Bool.{Bool, true, false}
use mathlib.Core.List.{List, [], ◌∷◌, ◌++◌}
use Prim.Native.Nat.{ℕ, zero, suc, ◌+◌, ◌≤◌, ◌<◌}
use native.Mathlib.Nat.{not-suc-le-zero, le_of_suc-le-suc}
use native.Mathlib.Omega.{arith}
use lib.ListN.{length, get_or}
use lib.Dec.{eqb}
use borrow.Author.Tests.{eq-eqb, ne_eqb}
use Rattle.meaning.specs.Bytes.{Part}
use Rattle.meaning.specs.Answer.{accepted, cons_if}
use Rattle.meaning.specs.Structure.{Row, structure_at}
use Rattle.meaning.specs.Trace.{Top, until_top, tops, is_group, groups_in, direct_in}
use Rattle.meaning.specs.Activity.{size_of}
use Rattle.meaning.proofs.Structures.{row_at_lem}
use Rattle.meaning.proofs.Walks.{Walks, none, more, walks_le, walks_depth, In, here, there, tiles}
use Rattle.meaning.proofs.Spans.{tiles_size}

-- rows of the depth d or deeper
abbrev pub Below : ℕ → List Row → Type 0
Below d rows = (r : Row) → In r rows → d ≤ r.depth

not_at : (d : ℕ) (x : Row) (xs : List Row) → Below (suc d) (x ∷ xs) → eqb x.depth d ≡ false
not_at d x xs h = ne_eqb x.depth d (λ q. omega (arith, h x (here refl)))

-- what is inside a top-level structure
tops_inside : (xs ys : List Row) → Below 2 xs → tops (xs ++ ys) ≡ tops ys
unfolding tops
tops_inside [] ys h = refl
tops_inside (x ∷ xs) ys h = rw (not_at 1 x xs h) (tops_inside xs ys (λ r i. h r (there i)))

until_inside : (xs ys : List Row) → Below 2 xs → until_top ys ≡ [] → until_top (xs ++ ys) ≡ xs
unfolding until_top
until_inside [] ys h e = e
until_inside (x ∷ xs) ys h e = rw (not_at 1 x xs h) (ap (λ (l : List Row). x ∷ l) (until_inside xs ys (λ r i. h r (there i)) e))

-- the first row of a walk at the top is at the top
pub until_walk : {m : Part} {p n : ℕ} {rows : List Row} {q : ℕ} → Walks m p 1 n rows q → until_top rows ≡ []
unfolding until_top
until_walk none = refl
until_walk {m} (more {p} {d} {r = r} t w₁ w₂) = rw (eq-eqb r.depth 1 (sym (row_at_lem m p 1 r t).at_depth)) refl

pub tops_next : (x : Row) (xs ys : List Row) → x.depth ≡ 1 → Below 2 xs → until_top ys ≡ [] → tops (x ∷ (xs ++ ys)) ≡ record { row = x; inside = xs } ∷ tops ys
unfolding tops
tops_next x xs ys d h e = rw (eq-eqb x.depth 1 d, until_inside xs ys h e, tops_inside xs ys h) refl

-- what is inside a direct member
direct_inside : (xs ys : List Row) → Below 3 xs → direct_in (xs ++ ys) ≡ direct_in ys
unfolding direct_in
direct_inside [] ys h = refl
direct_inside (x ∷ xs) ys h = rw (not_at 2 x xs h) (direct_inside xs ys (λ r i. h r (there i)))

pub direct_next : (x : Row) (xs ys : List Row) → x.depth ≡ 2 → Below 3 xs → direct_in (x ∷ (xs ++ ys)) ≡ x ∷ direct_in ys
unfolding direct_in
direct_next x xs ys d h = rw (eq-eqb x.depth 2 d, direct_inside xs ys h) refl

-- WHAT A TOP-LEVEL STRUCTURE IS: its row at its place, and the walk over what is inside it, which ends before `to`
pub record TopAt (m : Part) (from to : ℕ) (t : Top) : Type 0 where
  pub next : ℕ
  pub there : structure_at m t.row.place 1 ≡ accepted t.row
  pub behind : from ≤ t.row.place
  pub within : Walks m (t.row.place + t.row.size) 2 t.row.members t.inside next
  pub fills : t.row.place + (t.row.size + size_of t.inside) ≡ next
  pub ends : next ≤ to

pub data All (P : Top → Type 0) : List Top → Type 0 where
  empty : All P []
  also : {t : Top} {ts : List Top} → P t → All P ts → All P (t ∷ ts)

pub all_at : {P : Top → Type 0} {ts : List Top} → All P ts → (other : Top) (n : ℕ) → n < length ts → P (get_or ts n other)
all_at empty other n h = absurd (not-suc-le-zero h)
all_at (also x xs) other zero h = x
all_at (also x xs) other (suc n) h = all_at xs other n (le_of_suc-le-suc h)

pub all_groups : {P : Top → Type 0} {ts : List Top} (id : ℕ) → All P ts → All P (groups_in id ts)
unfolding groups_in
all_groups id empty = empty
all_groups {P} id (also {t} {ts} x xs) = go (is_group id t) (all_groups id xs)
  where
    go : (b : Bool) → All P (groups_in id ts) → All P (cons_if b t (groups_in id ts))
    go true ih = also x ih
    go false ih = ih

all_as : {P Q : Top → Type 0} {ts : List Top} → ((t : Top) → P t → Q t) → All P ts → All Q ts
all_as f empty = empty
all_as f (also {t} x xs) = also (f t x) (all_as f xs)

from_lower : (m : Part) (a b q : ℕ) (t : Top) → a ≤ b → TopAt m b q t → TopAt m a q t
from_lower m a b q t h x = record { next = x.next; there = x.there; behind = omega (arith, x.behind); within = x.within; fills = x.fills; ends = x.ends }

pub tops_at : {m : Part} {p n : ℕ} {rows : List Row} {q : ℕ} → Walks m p 1 n rows q → All (TopAt m p q) (tops rows)
unfolding tops
tops_at none = empty
tops_at {m} (more {p} {d} {n} {p₁} {q} {r} {rs₁} {rs₂} t w₁ w₂) =
    let g = row_at_lem m p 1 r t in
    let e = tops_next r rs₁ rs₂ (sym g.at_depth) (λ x i. walks_depth w₁ x i) (until_walk w₂) in
    let k = tiles_size m (p + r.size) rs₁ p₁ (tiles w₁) in
    let l = walks_le w₁ in
    let l₂ = walks_le w₂ in
    let one : TopAt m p q (record { row = r; inside = rs₁ }) =
    record {
      next = p₁;
      there = rw g.at_place at t;
      behind = omega (arith, g.at_place);
      within = rw g.at_place at w₁;
      fills = omega (arith, g.at_place);
      ends = omega arith;
    } in
    rw e (also one (all_as (λ u x. from_lower m p p₁ q u (omega arith) x) (tops_at w₂)))
