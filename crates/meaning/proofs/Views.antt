-- Nothing but the view sways an event: on a sound trace it answers as `seen` says of the trace's view, leaves a sound
-- trace with the attributes where they were, and the view of that is the one that `seen` leaves.
use mathlib.Core.Path.{◌≡◌, refl, sym, ap, ◌∙◌}
use mathlib.Core.Bool.{Bool, true, false, cond}
use mathlib.Core.List.{List, [], ◌∷◌, ◌++◌, append-nil}
use Prim.Native.Nat.{ℕ, ◌+◌}
use native.Mathlib.Nat.{add-zero}
use lib.ListN.{length}
use Rattle.meaning.specs.Bytes.{part_of, bump}
use Rattle.meaning.specs.Answer.{accepted, unless}
use Rattle.meaning.specs.Trace.{Terms, Trace, value, value_place, read_trace}
use Rattle.meaning.specs.Layout.{Layout, embedding_of}
use Rattle.meaning.specs.Event.{State, Event, layout_named, Answer, done, denied, Outcome, sound_event, group_of, Plan, plan_of, grown_if, reported_if, part_held, user_held, applied, decided, performed, leaving, on_trace, event_on, event}
use Rattle.meaning.specs.Activity.{Span}
use Rattle.meaning.specs.View.{view_of, risen, view_after, Seen, seeing, seen}
use Rattle.meaning.specs.Demand3.{is_done}
use Rattle.meaning.proofs.Sound.{Sound, sound, read_of}
use Rattle.meaning.proofs.Applied.{raised_sound, length_raised, raised_part, raised_embedding, grown_sound, length_grown, grown_lies, grown_embedding, appended_activity}
use Rattle.meaning.proofs.Spans.{spans_of, spans_more}
use Rattle.meaning.proofs.Plans.{plan_ok, Allowed, allowed}

-- the part that an appended group is
unfoldable pub span_if : Bool → ℕ → ℕ → List Span
span_if true p n = record { place = p; length = n } ∷ []
span_if false p n = []

-- what an event leaves of a sound trace t: a sound trace in a buffer of the same length; its Activity groups are those of
-- t and, if one was appended, that one, last; its part is as much longer, and its embedding the same
pub record Leaves (tm : Terms) (st st' : State) (t : Trace) (c : ℕ) (appended : Bool) (size : ℕ) : Type 0 where
  pub trace : Trace
  pub still_sound : Sound tm st'.buf st'.len trace
  pub same_places : trace.places ≡ t.places
  pub risen_values : trace.values ≡ risen t.values c
  pub same_room : length st'.buf ≡ length st.buf
  pub new_end : (part_held tm.layout st').end ≡ (part_held tm.layout st).end + cond appended size 0
  pub one_embedding : embedding_of tm.layout.form (part_of st'.buf st'.len) ≡ embedding_of tm.layout.form (part_of st.buf st.len)
  pub spans : spans_of trace.rows ≡ spans_of t.rows ++ span_if appended (part_held tm.layout st).end size

module _ (tm : Terms) (st : State) (e : Event) (t : Trace) (s : Sound tm st.buf st.len t) (ok : sound_event e ≡ true) where
  abbrev plan : Plan
  plan = plan_of t.values e

  -- with or without the group
  left : (b : Bool) → plan.appends ≡ b
      → Allowed t.values plan (length (group_of e)) st.len (length st.buf) (length st.report) → (report : List ℕ)
      → Leaves tm st (record {
        buf = grown_if b tm.layout.form (part_held tm.layout st) (user_held tm.layout st)
            (bump (part_held tm.layout st) st.buf (value_place (value t.places plan.counter))) (group_of e);
        len = st.len + cond b (length (group_of e)) 0;
        report = report;
      }) t plan.counter b (length (group_of e))
  unfolding span_if
  left true q a report =
      let k = plan_ok t.values e in
      let f = a.fits q in
      let g = k.lent q ok in
      record {
        trace = _;
        still_sound = grown_sound tm st.buf st.len t s plan.counter k.lo k.hi a.below (group_of e) g f.0 f.1;
        same_places = refl;
        risen_values = refl;
        same_room = length_grown tm st.buf st.len t s plan.counter k.lo k.hi a.below (group_of e) g f.0 f.1;
        new_end = (grown_lies tm st.buf st.len t s plan.counter k.lo k.hi a.below (group_of e) g f.0 f.1).1;
        one_embedding = grown_embedding tm st.buf st.len t s plan.counter k.lo k.hi a.below (group_of e) g f.0 f.1;
        spans = spans_more _ _ _ (appended_activity tm st.buf st.len t s plan.counter k.lo k.hi a.below (group_of e) g f.0 f.1)
            (length (group_of e)) (grown_lies tm st.buf st.len t s plan.counter k.lo k.hi a.below (group_of e) g f.0 f.1).1 t.rows;
      }
  left false q a report =
      let k = plan_ok t.values e in
      record {
        trace = record { rows = t.rows; places = t.places; values = risen t.values plan.counter };
        still_sound = rw (add-zero st.len) (raised_sound tm st.buf st.len t s plan.counter k.lo k.hi a.below);
        same_places = refl;
        risen_values = refl;
        same_room = length_raised tm st.buf st.len t s plan.counter k.lo k.hi a.below;
        new_end = rw (add-zero st.len) ((raised_part tm st.buf st.len t s plan.counter k.lo k.hi a.below).1 ∙ sym (add-zero _));
        one_embedding = rw (add-zero st.len) (raised_embedding tm st.buf st.len t s plan.counter k.lo k.hi a.below);
        spans = sym (append-nil (spans_of t.rows));
      }

  pub applied_leaves : Allowed t.values plan (length (group_of e)) st.len (length st.buf) (length st.report)
      → Leaves tm st (applied tm.layout st (group_of e) t.places plan) t plan.counter plan.appends (length (group_of e))
  unfolding applied
  applied_leaves a = left plan.appends refl a (reported_if plan.reports st.report (group_of e))

-- an event that names the layout of the terms is one under these terms
pub event_on_lem : (tm : Terms) (st : State) (e : Event) → layout_named e ≡ tm.layout → event tm.sheet st e ≡ event_on tm st e
unfolding event
event_on_lem tm st e h = ap (λ (l : Layout). event_on (record { sheet = tm.sheet; layout = l }) st e) h

-- the event is what is seen
pub record Faithful (tm : Terms) (t : Trace) (o : Outcome) (s : Seen) : Type 0 where
  pub one_answer : o.answer ≡ s.answer
  pub trace : Trace
  pub one_read : read_trace tm o.next.buf o.next.len ≡ accepted trace
  pub same_places : trace.places ≡ t.places
  pub one_view : view_of trace.values o.next ≡ s.next

module _ (tm : Terms) (st : State) (e : Event) (t : Trace) (r : read_trace tm st.buf st.len ≡ accepted t) where
  denied_faithful : (n p : ℕ) (owed : Bool)
      → Faithful tm t (record { answer = denied n p owed; next = st }) (record { answer = denied n p owed; next = view_of t.values st })
  denied_faithful n p owed = record { one_answer = refl; trace = t; one_read = r; same_places = refl; one_view = refl }

  by_answer : sound_event e ≡ true → (a : Answer)
      → decided st e t.values ≡ a
      → Faithful tm t (leaving st (performed tm.layout st e t) a)
      (seeing (view_of t.values st) (view_after (view_of t.values st) (group_of e) (plan_of t.values e)) a)
  unfolding view_after applied
  by_answer h (done x) d =
      let s = sound tm st.buf st.len t r in
      let a = allowed t.values e (length (group_of e)) st.len (length st.buf) (length st.report) s.message.range (ap is_done d) in
      let n = applied_leaves tm st e t s h a in
      record {
        one_answer = refl;
        trace = n.trace;
        one_read = read_of tm _ _ n.trace n.still_sound;
        same_places = n.same_places;
        one_view = rw (n.risen_values, n.same_room) refl;
      }
  by_answer h (denied x y z) d = denied_faithful x y z

  seen_on : Faithful tm t (event_on tm st e) (seen (view_of t.values st) e)
  unfolding event_on on_trace seen
  seen_on = rw r (go (sound_event e) refl)
    where
      go : (b : Bool) → sound_event e ≡ b
          → Faithful tm t
          (unless b (record { answer = denied 9 0 false; next = st })
          (leaving st (performed tm.layout st e t) (decided st e t.values)))
          (unless b (record { answer = denied 9 0 false; next = view_of t.values st })
          (seeing (view_of t.values st) (view_after (view_of t.values st) (group_of e) (plan_of t.values e))
          (decided st e t.values)))
      go true h = by_answer h (decided st e t.values) refl
      go false h = denied_faithful 9 0 false

  -- AN EVENT IS WHAT IS SEEN OF IT
  pub event_seen : layout_named e ≡ tm.layout → Faithful tm t (event tm.sheet st e) (seen (view_of t.values st) e)
  event_seen h = rw (event_on_lem tm st e h) seen_on
