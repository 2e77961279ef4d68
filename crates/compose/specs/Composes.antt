-- What Compose answers and leaves, in the meaning's terms.
use Rattle.std.specs.Prelude.{ℕ, List, Result}
use Rattle.meaning.specs.Layout.{plain, Layout}
use Rattle.meaning.specs.Trace.{Terms}
use Rattle.meaning.specs.Compose.{Composed}
use Rattle.refusals.specs.Refusals.{answer}
use Rattle.refusals.specs.declared.Refusal.{Refusal}

-- the layout of a message with nothing around its part
abbrev pub plain_layout : Layout
plain_layout = record { form = plain }

-- what the caller of a plain message states about it
abbrev pub plain_terms : List ℕ → Terms
plain_terms sheet = record { sheet = sheet; layout = plain_layout }

-- the answer, and the buffer after it
abbrev pub composed_into : Result ℕ Refusal → List ℕ → Composed
composed_into r buf = record { answer = answer r; buffer = buf }
