-- The answers for a whole message, in the meaning's terms.
use Rattle.std.specs.Prelude.{ℕ, ◌+◌, ◌≤◌, ◌≡◌, List, length, replicate, Result, Ok, Err}
use Rattle.meaning.specs.Bytes.{Part, number}
use Rattle.meaning.specs.Names.{most_bytes, bad_header}
use Rattle.meaning.specs.Answer.{Result as Meant, accepted, refused, and_then, unless}
use Rattle.meaning.specs.Structure.{Row}
use Rattle.meaning.specs.Walk.{walk}
use Rattle.meaning.specs.Layout.{Layout, located}
use Rattle.meaning.specs.Message.{parameter_count, first_place, header_ok, closed, check, types, tally_of, tally, Stepped as Step}
use Rattle.refusals.specs.Refusals.{answer, answered}
use Rattle.refusals.specs.declared.Refusal.{Refusal}
use Rattle.structure.specs.Rows.{row_of}
use Rattle.layout.specs.Layouts.{part_at}
use Rattle.layout.specs.declared.part.Part.{Part as PartIn}
use Rattle.pcf.specs.declared.message.Opening.{Opening}
use Rattle.pcf.specs.declared.message.Counts.{Counts}
use Rattle.pcf.specs.declared.message.Tallied.{Tallied}
use Rattle.pcf.specs.declared.message.Stepped.{Stepped}

-- a part whose header is sound, and how many structures it counts
pub record Opened : Type 0 where
  pub part : Part
  pub count : ℕ

-- what comes before the structures: 1 and 18, then 2
unfoldable pub opened_in : Part → Meant Opened
opened_in m = unless (header_ok m) (refused bad_header 0) (accepted (record { part = m; count = parameter_count m }))

unfoldable pub opened : Layout → List ℕ → ℕ → Meant Opened
opened l buf len = and_then (located l buf len) opened_in

abbrev pub opening_of : List ℕ → Opening → Opened
opening_of buf o = record { part = part_at buf o.part; count = o.count }

-- the rows of so many structures behind the header of a part, which they fill
abbrev pub structures_of : Part → ℕ → Meant (List Row)
structures_of m n = and_then (walk m (first_place m) 1 n) (closed m.end)

-- and their number
abbrev pub structure_count : Part → ℕ → Meant ℕ
structure_count m n = and_then (structures_of m n) (λ rows. accepted (length rows))

-- the part has room for its header, and lies in the buffer
pub record Reaches (msg : List ℕ) (p : PartIn) : Type 0 where
  pub room : p.start + 36 ≤ p.end
  pub there : p.end ≤ length msg
  pub most : p.end ≤ most_bytes

-- and its ParameterCount is known
pub record HeaderRead (msg : List ℕ) (o : Opening) : Type 0 where
  pub reaches : Reaches msg o.part
  pub read : o.count ≡ number msg (o.part.start + 32)

abbrev pub stepped_of : Stepped → Step
stepped_of s = record { row = row_of s.row; next = s.next }

abbrev pub total_of : Counts → ℕ
total_of t = t.number

-- the counts of a tally, all zero if it was refused
abbrev pub counts_of : Result Counts Refusal → List ℕ
counts_of (Ok t) = t.counts
counts_of (Err r) = replicate types 0

-- t is the answer and the counts for these rows, or for what stands in their place
pub record RowsTallied (rows : Meant (List Row)) (t : Result Counts Refusal) : Type 0 where
  pub answer : answered total_of t ≡ and_then rows (λ rs. accepted (length rs))
  pub counts : counts_of t ≡ tally_of rows

-- t is the check's answer and, if it is no refusal, the tally of the message
pub record CountedAs (l : Layout) (buf : List ℕ) (len : ℕ) (t : Result Counts Refusal) : Type 0 where
  pub answer : answered total_of t ≡ check l buf len
  pub counts : counts_of t ≡ tally l buf len

-- t is the check's answer and the tally of the message, refused or not
pub record TalliedAs (l : Layout) (buf : List ℕ) (len : ℕ) (t : Tallied) : Type 0 where
  pub answer : answer t.answer ≡ check l buf len
  pub counts : t.counts ≡ tally l buf len
