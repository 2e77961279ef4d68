-- The options of a call: one number for C, whose bits have names.
use Rattle.std.specs.Prelude.{ℕ}
use Rattle.meaning.specs.Answer.{when}
use Rattle.meaning.specs.Layout.{Layout as Meant}
use Rattle.meaning.specs.Trace.{any_bit}
use Rattle.layout.specs.Layouts.{layout_of}
use Rattle.layout.specs.declared.part.Form.TheVariants.{Plain, Embedded}
use Rattle.layout.specs.declared.part.Layout.{Layout}
use Rattle.codes.specs.declared.options.Options.{Options}

-- the message's descriptor asks for activity reports
abbrev pub GW_OPTION_REPORTS_ASKED : ℕ
GW_OPTION_REPORTS_ASKED = 1

-- the queue manager does activity recording
abbrev pub GW_OPTION_ACTIVITY_RECORDING : ℕ
GW_OPTION_ACTIVITY_RECORDING = 2

-- the queue manager does trace-route messaging
abbrev pub GW_OPTION_TRACE_ROUTE_MESSAGING : ℕ
GW_OPTION_TRACE_ROUTE_MESSAGING = 4

-- the remote queue manager supports trace-route messaging
abbrev pub GW_OPTION_REMOTE_SUPPORTS : ℕ
GW_OPTION_REMOTE_SUPPORTS = 8

-- the message has an embedded header, and may have user data
abbrev pub GW_OPTION_EMBEDDED : ℕ
GW_OPTION_EMBEDDED = 16

-- how a number says that a message is laid out, as the code has it and in the meaning's terms
unfoldable pub layout_said : ℕ → Layout
layout_said n = record { form = when (any_bit GW_OPTION_EMBEDDED n) Embedded Plain }

abbrev pub layout_in : ℕ → Meant
layout_in n = layout_of (layout_said n)

-- what a number says: each bit for itself; a bit without a name says nothing
unfoldable pub options_in : ℕ → Options
options_in n = record {
  asked = any_bit GW_OPTION_REPORTS_ASKED n;
  recording = any_bit GW_OPTION_ACTIVITY_RECORDING n;
  messaging = any_bit GW_OPTION_TRACE_ROUTE_MESSAGING n;
  supporting = any_bit GW_OPTION_REMOTE_SUPPORTS n;
  layout = layout_said n;
}
