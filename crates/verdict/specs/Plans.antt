-- What is due for an event and what is answered, as the code has it, in the meaning's terms.
use Rattle.std.specs.Prelude.{ℕ, ◌≤◌, ◌≡◌, Bool, List, Result, Ok, Err}
use Rattle.meaning.specs.Names.{RecordedActivities, UnrecordedActivities, DiscontinuityCount}
use Rattle.meaning.specs.Event.{Level as Rank, low, medium, high, Settings as Manager, Event, discontinuity, activity, Plan as Due, plan_of, Done as Told, Answer as Said, done, denied}
use Rattle.refusals.specs.Refusals.{number_of, place_of, owed}
use Rattle.refusals.specs.declared.Refusal.{Refusal}
use Rattle.layout.specs.Layouts.{layout_of}
use Rattle.verdict.specs.declared.plan.Level.{Level}
use Rattle.verdict.specs.declared.plan.Level.TheVariants.{Low, Medium, High}
use Rattle.verdict.specs.declared.plan.Settings.{Settings}
use Rattle.verdict.specs.declared.plan.Counter.{Counter}
use Rattle.verdict.specs.declared.plan.Counter.TheVariants.{Recorded, Unrecorded, Discontinuities}
use Rattle.verdict.specs.declared.plan.Plan.{Plan}
use Rattle.verdict.specs.declared.answer.Done.{Done}

abbrev pub level_of : Level → Rank
level_of Low = low
level_of Medium = medium
level_of High = high

abbrev pub settings_of : Settings → Manager
settings_of s = record { activity_recording = s.recording; trace_route_messaging = s.messaging; layout = layout_of s.layout }

-- an activity with its lent group, whether reports are asked for, and its settings
abbrev pub activity_of : Level → List ℕ → Bool → Settings → Event
activity_of level g asked s = activity (record { level = level_of level; group = g; reports_asked = asked }) (settings_of s)

-- a counter by its position among the eight attributes
abbrev pub counter_of : Counter → ℕ
counter_of Recorded = RecordedActivities
counter_of Unrecorded = UnrecordedActivities
counter_of Discontinuities = DiscontinuityCount

abbrev pub planned : Plan → Due
planned p = record { counter = counter_of p.counter; appends = p.appends; reports = p.reports }

-- r is the position c, which is one of the eight
pub record Index (c r : ℕ) : Type 0 where
  pub is : r ≡ c
  pub low : r ≤ 3

-- p is the plan for a discontinuity, whatever the values and its settings; for an activity, whatever its group
abbrev pub PlansDiscontinuity : Plan → Type 0
PlansDiscontinuity p = (v : List ℕ) (s : Manager) → planned p ≡ plan_of v (discontinuity s)

abbrev pub PlansActivity : Plan → List ℕ → Level → Bool → Settings → Type 0
PlansActivity p v level asked s = (g : List ℕ) → planned p ≡ plan_of v (activity_of level g asked s)

abbrev pub done_of : Done → Told
done_of d = record { counter = counter_of d.counter; appended = d.appended; report_length = d.report; message_length = d.message }

-- an answer: a refusal has its number and place, and 10 says whether a reply is owed
abbrev pub answer_of : Result Done Refusal → Said
answer_of (Ok d) = done (done_of d)
answer_of (Err r) = denied (number_of r) (place_of r) (owed r)
