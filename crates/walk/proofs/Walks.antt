-- The turns of a walk with a counter: what is told by what it came to, and that the counter has room.
use Rattle.std.proofs.Common.{◌≡◌, refl, sym, ap, ◌∙◌, arith, ℕ, ◌+◌, ◌-◌, ◌≤◌, List, [], ◌∷◌}
use Rattle.meaning.specs.Bytes.{Part}
use Rattle.meaning.specs.Answer.{Result, accepted, refused}
use Rattle.meaning.specs.Structure.{Row, structure_at}
use Rattle.meaning.specs.Walk.{Walked, walk}
use Rattle.meaning.proofs.Tests.{then_accepted, then_refused}
use Rattle.meaning.proofs.Walks.{walks}
use Rattle.meaning.proofs.Fuel.{walk_zero}
use Rattle.meaning.proofs.Tallies.{rows_room}
use Rattle.meaning.proofs.Lines.{walks_end}
use Rattle.structure.proofs.Extents.{Reaches, reach_fits, reach_least}
use Rattle.walk.specs.Counters.{CounterLaws, Counted, counting}
use Rattle.walk.proofs.Turns.{behind, walk_refused, walk_halt, walk_on}

-- a walk that came to the place q with the counter at u
abbrev pub came : {A : Type 0} → ℕ → A → Result (Counted A)
came q u = accepted (record { behind = q; seen = u })

module _ {A : Type 0} {counted : A → List Row → A} {Room : A → ℕ → Type 0} (laws : CounterLaws counted Room) where
  -- rows in front of a walk are counted before it
  counting_behind : (x : A) (xs : List Row) (w : Result Walked) → counting counted x (behind xs w) ≡ counting counted (counted x xs) w
  counting_behind x xs (accepted y) = ap (came y.next) (sym (laws.append x xs y.rows))
  counting_behind x xs (refused k q) = refl

  -- the walk w that came to q with the counter at u, from x
  record Came (x : A) (w : Result Walked) (q : ℕ) (u : A) : Type 0 where
    rows : List Row
    over : w ≡ accepted (record { rows = rows; next = q })
    seen : u ≡ counted x rows

  -- what is told of the walk w by what it came to
  told : (x : A) (w : Result Walked) (q : ℕ) (u : A) → came q u ≡ counting counted x w → Came x w q u
  told x w q u e =
      let f = then_accepted w (λ y. came y.next (counted x y.rows)) (record { behind = q; seen = u }) (sym e) in
      let g : ◌≡◌ {A = Counted A} (record { behind = f.0.next; seen = counted x f.0.rows }) (record { behind = q; seen = u }) = cc f.2 in
      record {
        rows = f.0.rows;
        over = f.1 ∙ ap (λ (i : ℕ). accepted (record { rows = f.0.rows; next = i })) (ap (λ (y : Counted A). y.behind) g);
        seen = sym (ap (λ (y : Counted A). y.seen) g);
      }

  halted : (x : A) (w : Result Walked) (k q : ℕ) → refused k q ≡ counting counted x w → w ≡ refused k q
  halted x w k q e = then_refused w (λ y. record { behind = y.next; seen = counted x y.rows }) k q (sym e)

  -- no structure is due
  pub turn_none : (m : Part) (p d n : ℕ) (x : A) → n ≡ 0 → came p x ≡ counting counted x (walk m p d n)
  turn_none m p d n x z = rw (z, walk_zero m p d) (ap (came p) (sym (laws.none x)))

  module _ (m : Part) (p d n n' : ℕ) (x : A) (due : n ≡ n' + 1) where
    pub turn_refused : (k q : ℕ) → structure_at m p d ≡ refused k q → counting counted x (walk m p d n) ≡ refused k q
    turn_refused k q e = ap (counting counted x) (walk_refused m p d n n' due k q e)

    module _ (size members : ℕ) (r : Reaches m p d size members) (y : A) (one : y ≡ counted x (r.row ∷ [])) where
      -- the walk inside it came to q with the counter at u
      pub turn_on : (q : ℕ) (u : A) → came q u ≡ counting counted y (walk m (p + size) (d + 1) members)
          → counting counted x (walk m p d n) ≡ counting counted u (walk m q d n')
      turn_on q u h =
          let f = told y (walk m (p + size) (d + 1) members) q u h in
          let e : counted x (r.row ∷ f.rows) ≡ u =
          sym (laws.append x (r.row ∷ []) f.rows) ∙ ap (λ (z : A). counted z f.rows) (sym one) ∙ sym f.seen in
          ap (counting counted x) (walk_on m p d n n' due size members r f.rows q f.over)
          ∙ counting_behind x (r.row ∷ f.rows) (walk m q d n') ∙ ap (λ (z : A). counting counted z (walk m q d n')) e

      -- it met a fault
      pub turn_halt : (k q : ℕ) → refused k q ≡ counting counted y (walk m (p + size) (d + 1) members) → counting counted x (walk m p d n) ≡ refused k q
      turn_halt k q h =
          ap (counting counted x) (walk_halt m p d n n' due size members r k q (halted y (walk m (p + size) (d + 1) members) k q h))

      -- there is nothing inside
      pub turn_plain : members ≡ 0 → counting counted x (walk m p d n) ≡ counting counted y (walk m (p + size) d n')
      turn_plain z = turn_on (p + size) y (turn_none m (p + size) (d + 1) members y z)

  module _ (m : Part) (p d size members : ℕ) (r : Reaches m p d size members) (x : A) (room : Room x (m.end - p)) where
    -- there is room for one structure more
    pub room_one : Room x 1
    room_one = rw (← laws.none x) (laws.room x (m.end - p) [] 1 room (omega (arith, reach_fits r, reach_least r)))

    -- and then for those behind it
    pub room_next : (y : A) → y ≡ counted x (r.row ∷ []) → Room y (m.end - (p + size))
    room_next y one = rw one (laws.room x (m.end - p) (r.row ∷ []) (m.end - (p + size)) room (omega (arith, reach_fits r, reach_least r)))

  -- and for those behind a walk
  pub room_behind : (m : Part) (p d n : ℕ) (y : A) (q : ℕ) (u : A) → came q u ≡ counting counted y (walk m p d n) → p ≤ m.end → Room y (m.end - p)
      → Room u (m.end - q)
  room_behind m p d n y q u e fits room =
      let f = told y (walk m p d n) q u e in
      let w = walks m p d n f.rows q f.over in
      rw f.seen (laws.room y (m.end - p) f.rows (m.end - q) room (omega (arith, rows_room w, walks_end w fits)))
