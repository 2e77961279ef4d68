-- The words of demand 3: two traces alike but for MaxActivities, under one list of events.
use Rattle.std.specs.Prelude.{ℕ, zero, suc, ◌+◌, ◌≤◌, ◌<◌, ◌≡◌, Bool, true, false, cond, ◌&&◌, ◌||◌, List, [], ◌∷◌, length, get_or, take, ltb, eqb}
use Rattle.meaning.specs.Names.{MaxActivities, MQROUTE_UNLIMITED_ACTIVITIES, MQFB_MAX_ACTIVITIES}
use Rattle.meaning.specs.Answer.{Result, accepted, refused}
use Rattle.meaning.specs.Layout.{Layout, plain}
use Rattle.meaning.specs.Trace.{Terms, Trace, value, value_place, read_trace}
use Rattle.meaning.specs.Event.{State, Event, discontinuity, layout_named, Answer, done, denied, event, counter_sum, sound_event}

-- A TRACE of demand 3 is a state under the caller's terms; this is what Read makes of it
abbrev pub read_of : Terms → State → Result Trace
read_of tm st = read_trace tm st.buf st.len

abbrev pub is_accepted : Result Trace → Bool
is_accepted (accepted t) = true
is_accepted (refused n p) = false

-- sound: none of Read's refusals applies
unfoldable pub sound_trace : Terms → State → Bool
sound_trace tm st = is_accepted (read_of tm st)

abbrev pub values_in : Result Trace → List ℕ
values_in (accepted t) = t.values
values_in (refused n p) = []

abbrev pub places_in : Result Trace → List ℕ
places_in (accepted t) = t.places
places_in (refused n p) = []

-- the sum of the three counters that stand in the trace; its limit, 0 for none; the first of the limit's four bytes
unfoldable pub sum_of : Terms → State → ℕ
sum_of tm st = counter_sum (values_in (read_of tm st))

unfoldable pub limit_of : Terms → State → ℕ
limit_of tm st = value (values_in (read_of tm st)) MaxActivities

unfoldable pub limit_place : Terms → State → ℕ
limit_place tm st = value_place (value (places_in (read_of tm st)) MaxActivities)

-- the second limit is larger, no limit being largest
unfoldable pub larger : ℕ → ℕ → Bool
larger first second = ltb MQROUTE_UNLIMITED_ACTIVITIES first && (eqb second MQROUTE_UNLIMITED_ACTIVITIES || ltb first second)

-- ALIKE but for the four bytes at q: equal lengths, buffer sizes and report buffers, and equal bytes of the messages.
-- The buffers' bytes behind the messages need not be alike.
pub record Alike (q : ℕ) (t u : State) : Type 0 where
  pub same_len : t.len ≡ u.len
  pub same_room : length t.buf ≡ length u.buf
  pub same_report : t.report ≡ u.report
  pub same_bytes : (i : ℕ) → i < t.len → ((q ≤ i) × (i < q + 4) → ⊥) → get_or t.buf i 0 ≡ get_or u.buf i 0

-- THE RUN: each event finds message, length and report buffer as the one before left them, whatever that one answered
unfoldable pub state_after : Terms → State → List Event → State
state_after tm st [] = st
state_after tm st (e ∷ es) = state_after tm (event tm.sheet st e).next es

-- the n-th event; what stands behind the last one, where no statement looks
abbrev pub no_event : Event
no_event = discontinuity (record { activity_recording = false; trace_route_messaging = false; layout = record { form = plain } })

abbrev pub event_at : List Event → ℕ → Event
event_at evs n = get_or evs n no_event

-- every event names the layout
abbrev pub AllName : Layout → List Event → Type 0
AllName l evs = (n : ℕ) → n < length evs → layout_named (event_at evs n) ≡ l

-- the state before the n-th event (after the first n events), and the answer to it
unfoldable pub state_at : Terms → State → List Event → ℕ → State
state_at tm st evs n = state_after tm st (take n evs)

unfoldable pub answer_at : Terms → State → List Event → ℕ → Answer
answer_at tm st evs n = (event tm.sheet (state_at tm st evs n) (event_at evs n)).answer

-- accepted: the answer is no refusal; rejected for the limit: it is 10
abbrev pub is_done : Answer → Bool
is_done (done d) = true
is_done (denied n p owed) = false

abbrev pub is_limit : Answer → Bool
is_limit (done d) = false
is_limit (denied n p owed) = eqb n MQFB_MAX_ACTIVITIES

-- how many of the first n events were accepted
unfoldable pub accepted_in : Terms → State → List Event → ℕ → ℕ
accepted_in tm st evs zero = 0
accepted_in tm st evs (suc n) = accepted_in tm st evs n + cond (is_done (answer_at tm st evs n)) 1 0

-- a rejection for the limit is due: a discontinuity or an activity with a sound group, before which the three counters'
-- sum plus one is above the trace's own limit
unfoldable pub due : Terms → State → Event → Bool
due tm st e =
    sound_event e && (ltb MQROUTE_UNLIMITED_ACTIVITIES (limit_of tm st) && ltb (limit_of tm st) (sum_of tm st + 1))

-- What holds of each trace by itself, all along the list: an event meets the limit exactly when that is due; once one did,
-- message and report buffer stay as they are for good; the counters have risen by the number of events accepted up to
-- there; and it is still a sound trace, with its limit where it was.
pub record Kept (tm : Terms) (t : State) (evs : List Event) : Type 0 where
  pub exact : (n : ℕ) → n < length evs → is_limit (answer_at tm t evs n) ≡ due tm (state_at tm t evs n) (event_at evs n)
  pub still : (n k : ℕ) → n ≤ k → k ≤ length evs → n < length evs → is_limit (answer_at tm t evs n) ≡ true
      → state_at tm t evs k ≡ state_at tm t evs n
  pub total : (n : ℕ) → n ≤ length evs → sum_of tm (state_at tm t evs n) ≡ sum_of tm t + accepted_in tm t evs n
  pub sound : (n : ℕ) → n ≤ length evs → sound_trace tm (state_at tm t evs n) ≡ true
  pub limit : (n : ℕ) → n ≤ length evs → limit_of tm (state_at tm t evs n) ≡ limit_of tm t
  pub place : (n : ℕ) → n ≤ length evs → limit_place tm (state_at tm t evs n) ≡ limit_place tm t

-- DEMAND 3, for one list of events: as long as the first trace has not met its limit, the two answer alike and stay alike
-- in all but the four bytes of their limits; and each by itself is kept.
pub record Demand3 (tm : Terms) (t u : State) (evs : List Event) : Type 0 where
  pub same_answers : (n : ℕ) → n < length evs → ((k : ℕ) → k ≤ n → is_limit (answer_at tm t evs k) ≡ false)
      → answer_at tm t evs n ≡ answer_at tm u evs n
  pub same_states : (n : ℕ) → n ≤ length evs → ((k : ℕ) → k < n → is_limit (answer_at tm t evs k) ≡ false)
      → Alike (limit_place tm t) (state_at tm t evs n) (state_at tm u evs n)
  pub first : Kept tm t evs
  pub second : Kept tm u evs
