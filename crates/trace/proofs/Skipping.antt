-- Structures that are known to be sound, and the place behind them, by the fields that were read.
use mathlib.Core.Path.{◌≡◌, refl, sym, ap, ◌∙◌}
use mathlib.Core.Bool.{true}
use mathlib.Core.List.{List, ◌∷◌, ◌++◌}
use Prim.Native.Nat.{ℕ, zero, suc, ◌+◌, ◌-◌, ◌≤◌, ◌<◌}
use native.Mathlib.Omega.{arith}
use lib.ListN.{length}
use Rattle.meaning.specs.Bytes.{Part, whole, number}
use Rattle.meaning.specs.Names.{MQCFT_GROUP, most_depth}
use Rattle.meaning.specs.Answer.{Result, accepted, refused, and_then}
use Rattle.meaning.specs.Structure.{Row, structure_at}
use Rattle.meaning.specs.Walk.{Walked, walked, walk}
use Rattle.meaning.proofs.Tests.{clash, then_accepted}
use Rattle.meaning.proofs.Structures.{row_at_lem}
use Rattle.meaning.proofs.Members.{group_members, group_shallow, members_group}
use Rattle.trace.specs.Passing.{Crossed, crossed, behind_of, is_sound}
use Rattle.trace.proofs.Turns.{one_left, Over, over, walk_halt, walk_over, pass_over, pass_plain}

-- A STRUCTURE that is sound was passed over
accepted_of : {A : Type 0} (x : Result A) → is_sound x ≡ true → (a : A) × (x ≡ accepted a)
accepted_of (accepted a) e = (a, refl)
accepted_of (refused k q) e = absurd (clash (cc))

pub known_over : (m : Part) (p d : ℕ) → is_sound (crossed m p d) ≡ true → (s : Crossed) × Over m p d s.row s.next
known_over m p d h = let a = accepted_of (crossed m p d) h in (a.0, over m p d a.0.row a.0.next a.1)

-- with 16 bytes or more
pub known_room : (m : Part) (p d : ℕ) → is_sound (crossed m p d) ≡ true → p + 16 ≤ m.end
known_room m p d h =
    let o = known_over m p d h in
    let g = row_at_lem m p d o.0.row o.1.there in
    omega (arith, g.at_fits, g.at_least)

-- the same, by the place behind it
pub behind_over : (m : Part) (p d q : ℕ) → behind_of (crossed m p d) ≡ accepted q → (r : Row) × Over m p d r q
behind_over m p d q e =
    let f = then_accepted (crossed m p d) (λ s. accepted s.next) q e in
    let z : f.0.next ≡ q = cc f.2 in
    (f.0.row, over m p d f.0.row q (f.1 ∙ ap (λ (x : ℕ). accepted (record { row = f.0.row; next = x })) z))

-- A WALK that is sound: so is its first structure, and so is the rest
module _ (m : Part) (p d n n' : ℕ) (due : n ≡ n' + 1) (sound : is_sound (walk m p d n) ≡ true) where
  pub sound_first : is_sound (crossed m p d) ≡ true
  sound_first = go (crossed m p d) refl
    where
      go : (x : Result Crossed) → crossed m p d ≡ x → is_sound x ≡ true
      go (accepted s) e = refl
      go (refused k q) e = ap (is_sound {A = Walked}) (sym (walk_halt m p d n n' due k q e)) ∙ sound

  module _ (r : Row) (q : ℕ) (o : Over m p d r q) where
    rest : (w : Result Walked) → is_sound (and_then w (λ y. walked (r ∷ (o.inside ++ y.rows)) y.next)) ≡ true → is_sound w ≡ true
    rest (accepted y) e = refl
    rest (refused k x) e = e

    pub sound_next : is_sound (walk m q d n') ≡ true
    sound_next = rest (walk m q d n') (ap (is_sound {A = Walked}) (sym (walk_over m p d n n' due r q o)) ∙ sound)

-- the first of those that are left in a loop
pub left_first : (m : Part) (p d n i : ℕ) → i < n → is_sound (walk m p d (n - i)) ≡ true → is_sound (crossed m p d) ≡ true
left_first m p d n i h w = sound_first m p d (n - i) (n - (i + 1)) (one_left n i h) w

-- what is no group has no members
row_plain : (m : Part) (p d : ℕ) (r : Row) → structure_at m p d ≡ accepted r → (r.kind ≡ MQCFT_GROUP → ⊥) → r.members ≡ 0
row_plain m p d r t k = go r.members refl
  where
    go : (n : ℕ) → r.members ≡ n → n ≡ 0
    go zero e = refl
    go (suc n) e = absurd (k (members_group m p d r t (omega arith)))

-- its length, as it was read, fits
pub known_fits : (s : List ℕ) (p d size : ℕ) → is_sound (crossed (whole s) p d) ≡ true → size ≡ number s (p + 4) → p + size ≤ length s
known_fits s p d size h e =
    let o = known_over (whole s) p d h in
    let g = row_at_lem (whole s) p d o.0.row o.1.there in
    omega (arith, g.at_fits, e ∙ g.at_size)

-- THE PLACE BEHIND IT, by the fields that were read
pub record Seen (s : List ℕ) (p d size kind : ℕ) : Type 0 where
  pub sound : is_sound (crossed (whole s) p d) ≡ true
  pub is_size : size ≡ number s (p + 4)
  pub is_kind : kind ≡ number s p

module _ {s : List ℕ} {p d size kind : ℕ} (f : Seen s p d size kind) where
  abbrev m : Part
  m = whole s

  known : (x : Crossed) × Over m p d x.row x.next
  known = known_over m p d f.sound

  abbrev row : Row
  row = known.0.row

  there : structure_at m p d ≡ accepted row
  there = known.1.there

  row_as_kind : kind ≡ row.kind
  row_as_kind = f.is_kind ∙ (row_at_lem m p d row there).at_kind

  row_as_size : size ≡ row.size
  row_as_size = f.is_size ∙ (row_at_lem m p d row there).at_size

  pub behind_plain : (kind ≡ MQCFT_GROUP → ⊥) → behind_of (crossed m p d) ≡ accepted (p + size)
  behind_plain k =
      let z = row_plain m p d row there (λ e. k (row_as_kind ∙ e)) in
      sym (ap behind_of (pass_plain m p d row there z)) ∙ ap (λ (x : ℕ). accepted (p + x)) (sym row_as_size)

  module _ (group : kind ≡ MQCFT_GROUP) where
    pub behind_shallow : d ≤ most_depth
    behind_shallow = group_shallow m p d row there (sym row_as_kind ∙ group)

    module _ (members : ℕ) (is-members : members ≡ number s (p + 12)) where
      inside : walk m (p + row.size) (d + 1) row.members ≡ walk m (p + size) (d + 1) members
      inside = cc (row_as_size, is-members ∙ group_members m p d row there (sym row_as_kind ∙ group))

      -- its members are sound: the walk over them is not refused
      pub behind_never : (k q : ℕ) → walk m (p + size) (d + 1) members ≡ refused k q → ⊥
      behind_never k q e =
          let z : walked known.1.inside known.0.next ≡ refused k q = sym known.1.within ∙ inside ∙ e in
          clash (cc)

      pub behind_group : (rows : List Row) (q : ℕ) → walk m (p + size) (d + 1) members ≡ walked rows q → behind_of (crossed m p d) ≡ accepted q
      behind_group rows q e = sym (ap behind_of (pass_over m p d row there rows q (inside ∙ e)))
