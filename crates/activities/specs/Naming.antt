-- A named string as the code hands it out, in the meaning's terms.
use Rattle.std.specs.Prelude.{ℕ, ◌≡◌, List, [], ◌∷◌, Option, Some, None}
use Rattle.std.specs.Borrow.{Bor}
use Rattle.meaning.specs.Bytes.{Part}
use Rattle.meaning.specs.Answer.{Result, accepted, refused}
use Rattle.meaning.specs.Structure.{Row}
use Rattle.meaning.specs.Walk.{Walked}
use Rattle.meaning.specs.Trace.{direct_in, named}
use Rattle.meaning.specs.Activity.{Name, in_message, substitute, strings, string_at}
use Rattle.activities.specs.Spans.{span_in, SliceAt}
use Rattle.activities.specs.declared.group.Span.{Span}

-- a part of the message, or the lent substitute where there is none
abbrev pub named_in : Option Span → Name
named_in (Some s) = in_message (span_in s)
named_in None = substitute

-- the data of the first of the rows
abbrev pub first_data : Part → List Row → Name
first_data m [] = substitute
first_data m (r ∷ rs) = in_message (string_at m r.place)

-- the data of the first direct string with the identifier that a walk has gone over
abbrev pub string_in : Part → ℕ → Result Walked → Name
string_in m id (accepted w) = first_data m (named id (strings (direct_in w.rows)))
string_in m id (refused k p) = substitute

-- r is the part of the lent msg that the name is, or the lent substitute itself
abbrev pub Gives : Bor (List ℕ) → Bor (List ℕ) → Name → Bor (List ℕ) → Type 0
Gives msg other (in_message s) r = SliceAt msg s r
Gives msg other substitute r = r ≡ other
