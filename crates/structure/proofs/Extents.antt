-- A sound structure, as far as its length and the number of its members tell of it.
use mathlib.Core.Path.{◌≡◌, sym, ap, ◌∙◌, refl}
use mathlib.Core.List.{List}
use Prim.Native.Nat.{ℕ, ◌+◌, ◌≤◌, ◌<◌}
use native.Mathlib.Omega.{arith}
use Rattle.meaning.specs.Bytes.{Part, whole, number}
use Rattle.meaning.specs.Names.{most_depth}
use Rattle.meaning.specs.Answer.{Result, accepted, refused}
use Rattle.meaning.specs.Structure.{Row, structure_at}
use Rattle.meaning.proofs.Tests.{then_accepted, then_refused}
use Rattle.meaning.proofs.Structures.{RowAt, row_at_lem}
use Rattle.meaning.proofs.Members.{members_shallow}
use Rattle.structure.specs.Rows.{Reach, reach_of}

-- a sound structure of the length n with k members
pub record Reaches (m : Part) (p d n k : ℕ) : Type 0 where
  pub row : Row
  pub there : structure_at m p d ≡ accepted row
  pub size : row.size ≡ n
  pub members : row.members ≡ k

-- it is there, or nothing sound is, by what the code has in hand
pub reaches : {m : Part} {p d n k : ℕ} → accepted (record { size = n; members = k }) ≡ reach_of (structure_at m p d) → Reaches m p d n k
reaches {m} {p} {d} {n} {k} e =
    let f = then_accepted (structure_at m p d) (λ r. accepted (record { size = r.size; members = r.members })) (record { size = n; members = k }) (sym e) in
    let g : ◌≡◌ {A = Reach} (record { size = f.0.size; members = f.0.members }) (record { size = n; members = k }) = cc f.2 in
    record { row = f.0; there = f.1; size = ap (λ (x : Reach). x.size) g; members = ap (λ (x : Reach). x.members) g }

pub reaches_none : {x : Result Row} {j q : ℕ} → refused j q ≡ reach_of x → x ≡ refused j q
reaches_none {x} e = then_refused x (λ r. record { size = r.size; members = r.members }) _ _ (sym e)

module _ {m : Part} {p d n k : ℕ} (r : Reaches m p d n k) where
  at : RowAt m p d r.row
  at = row_at_lem m p d r.row r.there

  pub reach_fits : p + n ≤ m.end
  reach_fits = rw (← r.size) at.at_fits

  pub reach_least : 16 ≤ n
  reach_least = rw (← r.size) at.at_least

  pub reach_type : r.row.kind < 27
  reach_type = at.at_type

  -- what has members is no deeper than 8
  pub reach_shallow : (k ≡ 0 → ⊥) → d ≤ most_depth
  reach_shallow h = members_shallow m p d r.row r.there (omega (arith, r.members))

-- the row of a structure, by its fields
row_as : (r : Row) (d p t k n j : ℕ) → d ≡ r.depth → p ≡ r.place → t ≡ r.kind → k ≡ r.parameter → r.size ≡ n → r.members ≡ j
    → r ≡ record { depth = d; place = p; kind = t; parameter = k; size = n; members = j }
row_as r d p t k n j a b c e f g = rw (a, b, c, e, ← f, ← g) refl

-- its Type and its row, with the numbers that were read
module _ (s : List ℕ) (p d n k : ℕ) (r : Reaches (whole s) p d n k) where
  pub reach_kind : (t : ℕ) → t ≡ number s p → t ≡ r.row.kind
  reach_kind t e = e ∙ (at r).at_kind

  pub reach_row : (t j : ℕ) → t ≡ number s p → j ≡ number s (p + 8)
      → structure_at (whole s) p d ≡ accepted (record { depth = d; place = p; kind = t; parameter = j; size = n; members = k })
  reach_row t j e f =
      r.there ∙ ap accepted (row_as r.row d p t j n k (at r).at_depth (at r).at_place (reach_kind t e) (f ∙ (at r).at_parameter) r.size r.members)
