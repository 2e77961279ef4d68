-- Groups and their members: only a group has members, and no group is deeper than 8.
use mathlib.Core.Path.{◌≡◌, refl, sym, ap, ◌∙◌}
use mathlib.Core.Bool.{Bool, true, false, cond}
use Prim.Native.Nat.{ℕ, ◌+◌, ◌≤◌, ◌<◌}
use native.Mathlib.Omega.{arith}
use lib.Dec.{leb, eqb}
use borrow.Author.Tests.{ltb-false, eq-eqb, eqb-true, le-leb}
use Rattle.meaning.specs.Bytes.{Part, num, word}
use Rattle.meaning.specs.Names.{MQCFT_GROUP, most_depth}
use Rattle.meaning.specs.Answer.{accepted}
use Rattle.meaning.specs.Structure.{Row, structure_at}
use Rattle.meaning.proofs.Structures.{Judged, judge_accepted}

module _ (s : Part) (p d : ℕ) (r : Row) (e : structure_at s p d ≡ accepted r) where
  judged_row : Judged s.end p d (num s p) (num s (p + 4)) (num s (p + 8)) (word s (p + num s (p + 4)) (p + 12))
      (word s (p + num s (p + 4)) (p + 16)) (word s (p + num s (p + 4)) (p + 20)) r
  unfolding structure_at
  judged_row = judge_accepted _ _ _ _ _ _ _ _ _ _ e

  pub group_shallow : r.kind ≡ MQCFT_GROUP → d ≤ most_depth
  group_shallow k =
      let g : num s p ≡ MQCFT_GROUP = ap (λ (x : Row). x.kind) judged_row.row ∙ k in
      ltb-false most_depth d (rw (eq-eqb (num s p) MQCFT_GROUP g) at judged_row.shallow)

  -- as many as the field behind Parameter says
  pub group_members : r.kind ≡ MQCFT_GROUP → num s (p + 12) ≡ r.members
  unfolding word
  group_members k =
      let g : num s p ≡ MQCFT_GROUP = ap (λ (x : Row). x.kind) judged_row.row ∙ k in
      let there : leb (p + 12 + 4) (p + num s (p + 4)) ≡ true = le-leb (p + 12 + 4) (p + num s (p + 4)) (omega (arith, judged_row.least)) in
      rw (eq-eqb (num s p) MQCFT_GROUP g, there) at (ap (λ (x : Row). x.members) judged_row.row)

  pub members_group : 0 < r.members → r.kind ≡ MQCFT_GROUP
  members_group h = go (eqb (num s p) MQCFT_GROUP) refl (ap (λ (x : Row). x.members) judged_row.row)
    where
      go : (b : Bool) → eqb (num s p) MQCFT_GROUP ≡ b → cond b (word s (p + num s (p + 4)) (p + 12)) 0 ≡ r.members → r.kind ≡ MQCFT_GROUP
      go true f m = sym (ap (λ (x : Row). x.kind) judged_row.row) ∙ eqb-true (num s p) MQCFT_GROUP f
      go false f m = absurd (omega arith)

  pub members_shallow : 0 < r.members → d ≤ most_depth
  members_shallow h = group_shallow (members_group h)
