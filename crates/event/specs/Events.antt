-- An event on a message, in the meaning's terms.
use Rattle.std.specs.Prelude.{ℕ, ◌≡◌, List, Result, Ok, Err}
use Rattle.meaning.specs.Event.{discontinuity, State, Outcome, event}
use Rattle.refusals.specs.declared.Refusal.{Refusal}
use Rattle.verdict.specs.Plans.{settings_of, answer_of}
use Rattle.verdict.specs.declared.plan.Settings.{Settings}
use Rattle.verdict.specs.declared.answer.Done.{Done}

-- THE STATE that an event is given: the message buffer, the message's length, the report buffer
abbrev pub state : List ℕ → ℕ → List ℕ → State
state buf len report = record { buf = buf; len = len; report = report }

-- the message's length after an answer
abbrev pub length_after : ℕ → Result Done Refusal → ℕ
length_after len (Ok d) = d.message
length_after len (Err r) = len

-- the answer, and what is left: a caller that hands it on to the next event goes from state to state
abbrev pub outcome : Result Done Refusal → ℕ → List ℕ → List ℕ → Outcome
outcome r len buf report = record { answer = answer_of r; next = record { buf = buf; len = length_after len r; report = report } }

-- a discontinuity, whatever the report buffer: it stays as it is
abbrev pub Discontinues : List ℕ → Settings → List ℕ → ℕ → Result Done Refusal → List ℕ → Type 0
Discontinues sheet s buf len r buf' =
    (report : List ℕ) → outcome r len buf' report ≡ event sheet (state buf len report) (discontinuity (settings_of s))
