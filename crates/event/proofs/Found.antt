-- What is known of Read once a trace was found, or refused.
use mathlib.Core.Path.{◌≡◌, refl, sym, ap, ◌∙◌}
use mathlib.Core.Bool.{Bool, true, false}
use mathlib.Core.List.{List, []}
use Prim.Native.Nat.{ℕ}
use lib.ListN.{length}
use Rattle.meaning.specs.Answer.{accepted}
use Rattle.meaning.specs.Bytes.{Part as Meant}
use Rattle.meaning.specs.Layout.{part_in}
use Rattle.meaning.specs.Trace.{Terms, Trace}
use Rattle.meaning.specs.Event.{State, Event, discontinuity, layout_named, denied, sound_event, group_of, Plan, plan_of, decide, applied, leaving, on_trace, event_on, event, group_ok}
use Rattle.refusals.specs.Refusals.{number_of, place_of, owed, refusal}
use Rattle.refusals.specs.declared.Refusal.{Refusal}
use Rattle.refusals.specs.declared.Refusal.TheVariants as refusals
use Rattle.meaning.proofs.Outcomes.{read_refused as unread}
use Rattle.meaning.proofs.Views.{event_on_lem}
use Rattle.layout.specs.Layouts.{layout_of, part_at}
use Rattle.trace.specs.Locations.{traced_by}
use Rattle.trace.specs.declared.location.Traced.{Traced}
use Rattle.trace.proofs.Locating.{traced_refused, Found, found}
use Rattle.verdict.specs.Plans.{settings_of, activity_of}
use Rattle.event.specs.Written.{Ready}
use Rattle.verdict.specs.declared.plan.Level.{Level}
use Rattle.verdict.specs.declared.plan.Settings.{Settings}
use Rattle.event.proofs.Entries.{Countable, event_refused, event_unsound}

-- only 10 says that a reply is owed, and Read never refuses with it
not_owed : (r : Refusal) → (number_of r ≡ 10 → ⊥) → owed r ≡ false
not_owed refusals.BadLength h = refl
not_owed refusals.BadHeader h = refl
not_owed (refusals.BadStructure p) h = refl
not_owed (refusals.TooDeep p) h = refl
not_owed (refusals.LeftOver p) h = refl
not_owed refusals.NoTraceHeader h = refl
not_owed refusals.NoTraceRoute h = refl
not_owed refusals.BadAttribute h = refl
not_owed refusals.BadGroup h = refl
not_owed (refusals.MaxActivities o) h = absurd (h refl)
not_owed refusals.CounterFull h = refl
not_owed refusals.NoRoom h = refl
not_owed refusals.ReportTooShort h = refl
not_owed refusals.UnsupportedDelivery h = refl
not_owed refusals.UnsupportedForwarding h = refl
not_owed refusals.NotForwarded h = refl
not_owed refusals.BadSheet h = refl
not_owed refusals.BadEmbeddedHeader h = refl

-- THE ENTRIES, by what was found
module _ (sheet buf : List ℕ) (len : ℕ) (s : Settings) where
  abbrev tm : Terms
  tm = record { sheet = sheet; layout = layout_of s.layout }

  abbrev m : Meant
  m = part_in (layout_of s.layout) buf len

  abbrev st : List ℕ → State
  st report = record { buf = buf; len = len; report = report }

  pub unread_event : (r : Refusal) → refusal r ≡ traced_by 0 tm buf len → (report : List ℕ) (happened : Event) → layout_named happened ≡ layout_of s.layout
      → record { answer = denied (number_of r) (place_of r) (owed r); next = st report } ≡ event sheet (st report) happened
  unread_event r e report happened named =
      let u = traced_refused 0 tm buf len (number_of r) (place_of r) e in
      let o : owed r ≡ false = not_owed r (unread tm buf len (number_of r) (place_of r) u).number in
      rw o (sym (event_on_lem tm (st report) happened named ∙ event_refused tm (st report) happened (number_of r) (place_of r) u))

  module _ (l : Traced) (e : accepted l ≡ traced_by 0 tm buf len) where
    got : Found 0 tm buf len l
    got = found 0 tm buf len l e

    abbrev t : Trace
    t = record { rows = got.rows; places = l.places; values = l.values }

    here : m ≡ part_at buf l.part
    here = ap (part_at buf) (sym got.part)

    -- a discontinuity
    abbrev counts : Event
    counts = discontinuity (settings_of s)

    pub is_countable : Countable buf len s l
    is_countable = record { sheet = sheet; rows = t.rows; read = got.read; lies = here }

    pub counted_event : (report : List ℕ) → leaving (st report) (applied (layout_of s.layout) (st report) [] l.places (plan_of l.values counts))
        (decide l.values (plan_of l.values counts) 0 len (length buf) (length report)) ≡ event sheet (st report) counts
    unfolding event event_on on_trace sound_event group_of
    counted_event report = rw got.read refl

    -- an activity
    module _ (level : Level) (g : List ℕ) (asked : Bool) (report : List ℕ) where
      abbrev happened : Event
      happened = activity_of level g asked s

      pub unsound_event : group_ok g ≡ false → record { answer = denied 9 0 false; next = st report } ≡ event sheet (st report) happened
      unfolding sound_event
      unsound_event u = sym (event_on_lem tm (st report) happened refl ∙ event_unsound tm (st report) happened t got.read u)

      pub is_ready : group_ok g ≡ true → (p : Plan) → p ≡ plan_of l.values happened
          → Ready buf len s.layout l p g report
      unfolding sound_event group_of
      is_ready ok p d = record { sheet = sheet; rows = t.rows; happened = happened; read = got.read; lies = here; sound_group = ok; due = sym d; lent = refl }

      pub entered_event : group_ok g ≡ true → (p : Plan) → p ≡ plan_of l.values happened
          → leaving (st report) (applied (layout_of s.layout) (st report) g l.places p)
          (decide l.values p (length g) len (length buf) (length report)) ≡ event sheet (st report) happened
      unfolding event event_on on_trace sound_event group_of
      entered_event ok p d = rw (got.read, ok, d) refl
