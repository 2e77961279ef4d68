-- How a message is closed: what the walk over all its structures came to, and what the meaning makes of it.
use mathlib.Core.Path.{◌≡◌, refl, sym, ap, ◌∙◌}
use mathlib.Core.List.{List, [], ◌∷◌}
use mathlib.Core.List as whole·
use Prim.Native.Nat.{ℕ, ◌+◌, ◌≤◌}
use native.Mathlib.Nat.{zero-add}
use native.Mathlib.Omega.{arith}
use lib.ListN.{replicate, take, length}
use borrow.Author.Tests.{eq-eqb, ne_eqb}
use Rattle.std.specs.Prelude.{sum, fold, Ok, Err}
use Rattle.meaning.specs.Bytes.{Part, whole}
use Rattle.meaning.specs.Names.{left_over}
use Rattle.meaning.specs.Answer.{Result, accepted, refused, and_then}
use Rattle.meaning.specs.Structure.{Row}
use Rattle.meaning.specs.Walk.{Walked, walked, walk}
use Rattle.meaning.specs.Layout.{Layout}
use Rattle.meaning.specs.Message.{closed, check, counts_from, types}
use Rattle.meaning.proofs.Tests.{clash}
use Rattle.meaning.proofs.Walks.{walks}
use Rattle.meaning.proofs.Tallies.{total_counts, walks_kinds}
use Rattle.refusals.specs.Refusals.{refusal}
use Rattle.refusals.specs.declared.Refusal.{Refusal}
use Rattle.walk.specs.Passings.{passage}
use Rattle.walk.specs.Tallies.{added, Tally, tallied}
use Rattle.walk.proofs.Counting.{counted}
use Rattle.walk.proofs.Numbering.{Past, past_rows}
use Rattle.layout.specs.Layouts.{part_at}
use Rattle.layout.specs.declared.part.Part.{Part as PartIn}
use Rattle.pcf.specs.Messages.{opened, structures_of, structure_count, RowsTallied}
use Rattle.pcf.proofs.Openings.{walk_part, scan_opened}

-- the sum from the front on, and from the end on
sum_from : (a : ℕ) (xs : List ℕ) → fold (λ b x. b + x) a xs ≡ a + whole·.sum ◌+◌ 0 xs
unfolding whole·.sum
sum_from a [] = omega arith
sum_from a (x ∷ xs) = sum_from (a + x) xs ∙ omega arith

sum_is : (xs : List ℕ) → sum xs ≡ whole·.sum ◌+◌ 0 xs
sum_is xs = sum_from 0 xs ∙ zero-add _

module _ (m : Part) (p d n : ℕ) where
  module _ (len q k : ℕ) (w : Past m p d n q k) where
    -- it ends where the part does
    pub closed_end : q ≡ len → and_then (walk m p d n) (closed len) ≡ accepted w.rows
    unfolding closed
    closed_end e = rw (w.over, eq-eqb q len e) refl

    -- bytes are left over
    pub closed_long : (q ≡ len → ⊥) → and_then (walk m p d n) (closed len) ≡ refused left_over q
    unfolding closed
    closed_long e = rw (w.over, ne_eqb q len e) refl

  -- a walk that came to q with the counts u: their sum is the number of structures
  pub record Counted (q : ℕ) (u : List ℕ) : Type 0 where
    pub past : Past m p d n q (sum u)
    pub counts : u ≡ counts_from types 0 past.rows

  pub counted_rows : (q : ℕ) (u : List ℕ) → accepted (record { behind = q; counts = u }) ≡ tallied (replicate types 0) (walk m p d n) → Counted q u
  counted_rows q u e = by (walk m p d n) refl e
    where
      by : (w : Result Walked) → walk m p d n ≡ w → accepted (record { behind = q; counts = u }) ≡ tallied (replicate types 0) w → Counted q u
      by (accepted x) h f =
          let t : ◌≡◌ {A = Tally} (record { behind = q; counts = u }) (record { behind = x.next; counts = added 0 (replicate types 0) x.rows }) = cc in
          let c : u ≡ counts_from types 0 x.rows = ap (λ (y : Tally). y.counts) t ∙ counted types 0 x.rows in
          record {
            past = past_rows m p d n x.rows q (sum u) (h ∙ ap (walked x.rows) (sym (ap (λ (y : Tally). y.behind) t)))
                (sum_is u ∙ ap (whole·.sum ◌+◌ 0) c ∙ total_counts types x.rows (walks_kinds (walks m p d n x.rows x.next h)));
            counts = c;
          }
      by (refused k r) h f = absurd (clash (cc))

  -- a structure was refused
  pub closed_fault : (len k q : ℕ) → refused k q ≡ tallied (replicate types 0) (walk m p d n) → and_then (walk m p d n) (closed len) ≡ refused k q
  closed_fault len k q e = by (walk m p d n) e
    where
      by : (w : Result Walked) → refused k q ≡ tallied (replicate types 0) w → and_then w (closed len) ≡ refused k q
      by (accepted x) f = absurd (clash (cc))
      by (refused j r) f = cc

  pub passed_fault : (len k q : ℕ) → refused k q ≡ passage (walk m p d n) → and_then (walk m p d n) (closed len) ≡ refused k q
  passed_fault len k q e = by (walk m p d n) e
    where
      by : (w : Result Walked) → refused k q ≡ passage w → and_then w (closed len) ≡ refused k q
      by (accepted x) f = absurd (clash (cc))
      by (refused j r) f = cc

-- THE CHECK, by what comes before the structures
module _ (l : Layout) (buf : List ℕ) (len : ℕ) where
  pub check_shut : (k q : ℕ) → refused k q ≡ opened l buf len → refused k q ≡ check l buf len
  unfolding check
  check_shut k q e = rw (scan_opened l buf len, ← e) refl

  pub check-opened : (m : Part) (n : ℕ) → accepted (record { part = m; count = n }) ≡ opened l buf len → structure_count m n ≡ check l buf len
  unfolding check
  check-opened m n e = rw (scan_opened l buf len, ← e) refl

-- THE ROWS of a part with a sound header, by the walk over the structures
module _ (buf : List ℕ) (p : PartIn) (n : ℕ) (h : p.end ≤ length buf) where
  abbrev bytes : Part
  bytes = whole (take p.end buf)

  walked_to : walk (part_at buf p) (p.start + 36) 1 n ≡ walk bytes (p.start + 36) 1 n
  walked_to = walk_part buf p h (p.start + 36) 1 n

  pub number_fault : (k q : ℕ) → refused k q ≡ passage (walk bytes (p.start + 36) 1 n) → refused k q ≡ structure_count (part_at buf p) n
  number_fault k q e = rw (walked_to, passed_fault bytes (p.start + 36) 1 n p.end k q e) refl

  pub tally_fault : (r : Refusal) → refusal r ≡ tallied (replicate types 0) (walk bytes (p.start + 36) 1 n)
      → RowsTallied (structures_of (part_at buf p) n) (Err r)
  tally_fault r e = rw (walked_to, closed_fault bytes (p.start + 36) 1 n p.end _ _ e) (record { answer = refl; counts = refl })

  module _ (q k : ℕ) (w : Past bytes (p.start + 36) 1 n q k) where
    pub number_end : q ≡ p.end → accepted k ≡ structure_count (part_at buf p) n
    number_end e = rw (walked_to, closed_end bytes (p.start + 36) 1 n p.end q k w e, w.number) refl

    long : (q ≡ p.end → ⊥) → structures_of (part_at buf p) n ≡ refused left_over q
    long e = rw (walked_to, closed_long bytes (p.start + 36) 1 n p.end q k w e) refl

    pub number_long : (q ≡ p.end → ⊥) → refused left_over q ≡ structure_count (part_at buf p) n
    number_long e = rw (long e) refl

  module _ (q : ℕ) (u : List ℕ) (c : Counted bytes (p.start + 36) 1 n q u) where
    pub tally_end : q ≡ p.end → (k : ℕ) → k ≡ sum u → RowsTallied (structures_of (part_at buf p) n) (Ok (record { number = k; counts = u }))
    tally_end e k s =
        rw (walked_to, closed_end bytes (p.start + 36) 1 n p.end q (sum u) c.past e) (record { answer = rw (s, c.past.number) refl; counts = c.counts })

    pub tally_long : (q ≡ p.end → ⊥) → (r : Refusal) → refusal {A = List Row} r ≡ refused left_over q → RowsTallied (structures_of (part_at buf p) n) (Err r)
    tally_long e r z = rw (long q (sum u) c.past e, ← z) (record { answer = refl; counts = refl })
