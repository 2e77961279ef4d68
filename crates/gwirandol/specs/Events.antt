-- What the functions for events answer, and what they leave.
use Rattle.std.specs.Prelude.{ℕ, ◌≡◌, List}
use Rattle.meaning.specs.Event.{Settings, Event, activity, State, event}
use Rattle.layout.specs.Layouts.{layout_of}
use Rattle.codes.specs.Events.{level_in, Tells}
use Rattle.codes.specs.Options.{options_in}

-- the settings of an event by its options
abbrev pub settings_in : ℕ → Settings
settings_in options = record {
  activity_recording = (options_in options).recording;
  trace_route_messaging = (options_in options).messaging;
  layout = layout_of (options_in options).layout;
}

-- an activity by its options and its level's number, with the lent group
abbrev pub activity_in : ℕ → ℕ → List ℕ → Event
activity_in options level group =
    activity (record { level = level_in level; group = group; reports_asked = (options_in options).asked }) (settings_in options)

-- EVENT: the answer, and what is left in the message buffer and in the report buffer
pub record Applies (sheet : List ℕ) (st : State) (e : Event) (before : List ℕ) (r : ℕ) (after buf report : List ℕ) : Type 0 where
  pub told : Tells (event sheet st e).answer before r after
  pub buffer : buf ≡ (event sheet st e).next.buf
  pub reported : report ≡ (event sheet st e).next.report
