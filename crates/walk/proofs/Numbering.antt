-- The walk that only numbers its structures: what is told by what it came to.
use mathlib.Core.Path.{◌≡◌, sym, ap, ◌∙◌}
use mathlib.Core.List.{List}
use Prim.Native.Nat.{ℕ, ◌+◌, ◌*◌, ◌≤◌}
use lib.ListN.{length}
use Rattle.meaning.specs.Bytes.{Part}
use Rattle.meaning.specs.Answer.{Result, accepted, refused}
use Rattle.meaning.specs.Structure.{Row}
use Rattle.meaning.specs.Walk.{walked, walk}
use Rattle.meaning.proofs.Tests.{then_accepted, then_refused}
use Rattle.meaning.proofs.Walks.{walks}
use Rattle.meaning.proofs.Tallies.{rows_room}
use Rattle.meaning.proofs.Lines.{walks_end}
use Rattle.walk.specs.Passings.{Passage, passage}

-- a walk that came to q, over k structures
abbrev pub reached : ℕ → ℕ → Result Passage
reached q k = accepted (record { behind = q; number = k })

module _ (m : Part) (p d n : ℕ) where
  -- the rows of a walk that came to q, over k structures
  pub record Past (q k : ℕ) : Type 0 where
    pub rows : List Row
    pub over : walk m p d n ≡ walked rows q
    pub number : k ≡ length rows
    pub room : p + k * 16 ≤ q
    pub end : p ≤ m.end → q ≤ m.end

  abbrev pub past_rows : (rows : List Row) (q k : ℕ) → walk m p d n ≡ walked rows q → k ≡ length rows → Past q k
  past_rows rows q k w e =
      let v = walks m p d n rows q w in
      record { rows = rows; over = w; number = e; room = rw e (rows_room v); end = walks_end v }

  pub past : (q k : ℕ) → reached q k ≡ passage (walk m p d n) → Past q k
  past q k e =
      let f = then_accepted (walk m p d n) (λ x. reached x.next (length x.rows)) (record { behind = q; number = k }) (sym e) in
      let g : ◌≡◌ {A = Passage} (record { behind = f.0.next; number = length f.0.rows }) (record { behind = q; number = k }) = cc f.2 in
      past_rows f.0.rows q k (f.1 ∙ ap (walked f.0.rows) (ap (λ (x : Passage). x.behind) g)) (sym (ap (λ (x : Passage). x.number) g))

  pub past_fault : (k q : ℕ) → refused k q ≡ passage (walk m p d n) → walk m p d n ≡ refused k q
  past_fault k q e = then_refused (walk m p d n) (λ x. record { behind = x.next; number = length x.rows }) k q (sym e)
