-- A walk, one structure after the other: each with all that is inside it.
use mathlib.Core.Path.{◌≡◌, refl, sym, ap, ◌∙◌}
use mathlib.Core.List.{List, [], ◌∷◌, ◌++◌}
use Prim.Native.Nat.{ℕ, ◌+◌, ◌-◌, ◌≤◌, ◌<◌}
use native.Mathlib.Omega.{arith}
use Rattle.meaning.specs.Bytes.{Part}
use Rattle.meaning.specs.Answer.{Result, accepted, refused, and_then}
use Rattle.meaning.specs.Structure.{Row, structure_at}
use Rattle.meaning.specs.Walk.{Walked, walked, ahead, enter, walk}
use Rattle.meaning.proofs.Tests.{clash, then_accepted}
use Rattle.meaning.proofs.Walks.{walks, walks_le}
use Rattle.meaning.proofs.Fuel.{walk_zero}
use Rattle.meaning.specs.Names.{most_depth}
use Rattle.structure.specs.Rows.{reach_of}
use Rattle.structure.proofs.Extents.{reaches, reach_fits, reach_least, reach_shallow}
use Rattle.walk.proofs.Turns.{unfolded, walk_on}
use Rattle.trace.specs.Passing.{Crossed, crossed}

-- A STRUCTURE that was found, by its extent: it lies in the bytes, with 16 or more, and what has members is no deeper than 8
module _ (m : Part) (p d n k : ℕ) (e : accepted (record { size = n; members = k }) ≡ reach_of (structure_at m p d)) where
  pub extent_fits : p + n ≤ m.end
  extent_fits = reach_fits (reaches e)

  pub extent_least : 16 ≤ n
  extent_least = reach_least (reaches e)

  pub extent_shallow : (k ≡ 0 → ⊥) → d ≤ most_depth
  extent_shallow = reach_shallow (reaches e)

-- WHAT IS PASSED, by what the structure and the walk inside it come to
module _ (m : Part) (p d : ℕ) where
  pub pass_refused : (k q : ℕ) → structure_at m p d ≡ refused k q → refused k q ≡ crossed m p d
  unfolding crossed
  pass_refused k q t = rw t refl

  module _ (r : Row) (t : structure_at m p d ≡ accepted r) where
    pub pass_halt : (k q : ℕ) → walk m (p + r.size) (d + 1) r.members ≡ refused k q → refused k q ≡ crossed m p d
    unfolding crossed
    pass_halt k q e = rw (t, e) refl

    pub pass_over : (rows : List Row) (q : ℕ) → walk m (p + r.size) (d + 1) r.members ≡ walked rows q
        → accepted (record { row = r; next = q }) ≡ crossed m p d
    unfolding crossed
    pass_over rows q e = rw (t, e) refl

    pub pass_plain : r.members ≡ 0 → accepted (record { row = r; next = p + r.size }) ≡ crossed m p d
    pass_plain z = pass_over [] (p + r.size) (rw (z, walk_zero m (p + r.size) (d + 1)) refl)

-- a structure that was passed over
pub record Over (m : Part) (p d : ℕ) (r : Row) (q : ℕ) : Type 0 where
  pub there : structure_at m p d ≡ accepted r
  pub inside : List Row
  pub within : walk m (p + r.size) (d + 1) r.members ≡ walked inside q

pub over : (m : Part) (p d : ℕ) (r : Row) (q : ℕ) → crossed m p d ≡ accepted (record { row = r; next = q }) → Over m p d r q
unfolding crossed
over m p d r q e =
    let s : Crossed = record { row = r; next = q } in
    let f = then_accepted (structure_at m p d) _ s e in
    let g = then_accepted (walk m (p + f.0.size) (d + 1) f.0.members) _ s f.2 in
    let h : ◌≡◌ {A = Crossed} (record { row = f.0; next = g.0.next }) s = cc g.2 in
    let a : f.0 ≡ r = ap (λ (x : Crossed). x.row) h in
    let b : g.0.next ≡ q = ap (λ (x : Crossed). x.next) h in
    record {
      there = f.1 ∙ ap accepted a;
      inside = g.0.rows;
      within = ap (λ (x : Row). walk m (p + x.size) (d + 1) x.members) (sym a) ∙ g.1 ∙ ap (walked g.0.rows) b;
    }

-- ONE TURN of a walk
-- in a loop over all structures, that one more is left
pub one_left : (n i : ℕ) → i < n → n - i ≡ n - (i + 1) + 1
one_left n i h = omega arith

-- the structure and the place behind it, from the walk inside it
abbrev step_to : Row → Walked → Result Crossed
step_to r w = accepted (record { row = r; next = w.next })

module _ (m : Part) (p d n n' : ℕ) (due : n ≡ n' + 1) where
  pub walk_halt : (k q : ℕ) → crossed m p d ≡ refused k q → walk m p d n ≡ refused k q
  unfolding crossed
  walk_halt k q e = unfolded m p d n n' due ∙ go (structure_at m p d) e
    where
      inner : (r : Row) (w : Result Walked) → and_then w (step_to r) ≡ refused k q
          → ahead r (and_then w (λ x. and_then (walk m x.next d n') (λ y. walked (x.rows ++ y.rows) y.next))) ≡ refused k q
      inner r (accepted x) e = absurd (clash (cc))
      inner r (refused k' q') e = cc

      go : (t : Result Row) → and_then t (λ r. and_then (walk m (p + r.size) (d + 1) r.members) (step_to r)) ≡ refused k q
          → enter t (λ r. walk m (p + r.size) (d + 1) r.members) (λ q. walk m q d n') ≡ refused k q
      go (accepted r) e = inner r (walk m (p + r.size) (d + 1) r.members) e
      go (refused k' q') e = cc

  pub walk_over : (r : Row) (q : ℕ) (o : Over m p d r q)
      → walk m p d n ≡ and_then (walk m q d n') (λ y. walked (r ∷ (o.inside ++ y.rows)) y.next)
  walk_over r q o =
      walk_on m p d n n' due r.size r.members (record { row = r; there = o.there; size = refl; members = refl }) o.inside q o.within

-- the place behind is not before the structure's end
pub over_le : (m : Part) (p d : ℕ) (r : Row) (q : ℕ) → Over m p d r q → p + r.size ≤ q
over_le m p d r q o = omega (arith, walks_le (walks m (p + r.size) (d + 1) r.members o.inside q o.within))
