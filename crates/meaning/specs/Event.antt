-- Events: what a discontinuity or an activity answers, and what it leaves in the message and in the report buffer.
use Rattle.std.specs.Prelude.{ℕ, ◌+◌, Bool, true, false, cond, not, ◌&&◌, ◌||◌, List, [], ◌++◌, length, leb, ltb, eqb}
use Rattle.meaning.specs.Bytes.{Part, whole, num, words, splice, bump}
use Rattle.meaning.specs.Names.{most_count, MQCFT_GROUP, MQGACF_ACTIVITY, MQROUTE_DETAIL_LOW, MQROUTE_DETAIL_MEDIUM, MQROUTE_DETAIL_HIGH, MQROUTE_ACCUMULATE_NONE, MQROUTE_ACCUMULATE_AND_REPLY, MQROUTE_UNLIMITED_ACTIVITIES, Detail, RecordedActivities, UnrecordedActivities, DiscontinuityCount, MaxActivities, Accumulate, bad_group, MQFB_MAX_ACTIVITIES, counter_full, no_room, report_too_short}
use Rattle.meaning.specs.Answer.{Result, accepted, refused, when, unless}
use Rattle.meaning.specs.Walk.{Walked, walk}
use Rattle.meaning.specs.Layout.{Form, Layout, part_in, room_for, user_data, lengthened}
use Rattle.meaning.specs.Message.{count_place}
use Rattle.meaning.specs.Trace.{Terms, Trace, value, value_place, read_trace}
use Rattle.meaning.specs.Compose.{report_header_fields}

-- WHAT HAPPENS
pub data Level : Type 0 where
  low medium high : Level

-- an activity: its level, the Activity group that is lent for it, and whether its message asks for reports
pub record Activity : Type 0 where
  pub level : Level
  pub group : List ℕ
  pub reports_asked : Bool

-- what the queue manager does: record activities, trace routes; and how the trace is laid out
pub record Settings : Type 0 where
  pub activity_recording : Bool
  pub trace_route_messaging : Bool
  pub layout : Layout

-- each event comes with its settings; of a discontinuity's only the layout plays a part
pub data Event : Type 0 where
  discontinuity : Settings → Event
  activity : Activity → Settings → Event

abbrev pub layout_named : Event → Layout
layout_named (discontinuity s) = s.layout
layout_named (activity a s) = s.layout

-- THE LENT GROUP is a part of its own, which one sound group 8005 of depth 1 fills; of 16 to 65,500 bytes, so that it is a
-- message with a report's header in front.
abbrev pub ends_at : ℕ → Result Walked → Bool
ends_at n (accepted w) = eqb w.next n
ends_at n (refused k p) = false

unfoldable pub group_ok : List ℕ → Bool
group_ok g =
    leb 16 (length g) && (leb (length g) 65500 && (eqb (num (whole g) 0) MQCFT_GROUP && (eqb (num (whole g) 8) MQGACF_ACTIVITY
    && ends_at (length g) (walk (whole g) 0 1 1))))

-- an event's group, and whether it is sound; a discontinuity needs none
unfoldable pub group_of : Event → List ℕ
group_of (discontinuity s) = []
group_of (activity a s) = a.group

unfoldable pub sound_event : Event → Bool
sound_event (discontinuity s) = true
sound_event (activity a s) = group_ok a.group

-- WHAT IS DUE
-- a level as a value of Detail: low is below medium, medium below high
abbrev pub rank : Level → ℕ
rank low = MQROUTE_DETAIL_LOW
rank medium = MQROUTE_DETAIL_MEDIUM
rank high = MQROUTE_DETAIL_HIGH

-- an activity of a higher level than Detail is not recorded
unfoldable pub unrecorded_for_level : Level → ℕ → Bool
unrecorded_for_level level detail = ltb detail (rank level)

-- any other is reported where that is asked for and the manager records activities
unfoldable pub reported : List ℕ → Activity → Settings → Bool
reported v a s = not (unrecorded_for_level a.level (value v Detail)) && (a.reports_asked && s.activity_recording)

-- and accumulated where the trace wants that and the manager traces routes
unfoldable pub accumulated : List ℕ → Activity → Settings → Bool
accumulated v a s =
    not (unrecorded_for_level a.level (value v Detail)) && (not (eqb (value v Accumulate) MQROUTE_ACCUMULATE_NONE) && s.trace_route_messaging)

-- recorded if either holds, else unrecorded
abbrev pub recorded_in : Bool → ℕ
recorded_in true = RecordedActivities
recorded_in false = UnrecordedActivities

-- which counter is to rise, and whether the group is to be appended and reported
pub record Plan : Type 0 where
  pub counter : ℕ
  pub appends : Bool
  pub reports : Bool

unfoldable pub plan_of : List ℕ → Event → Plan
plan_of v (discontinuity s) = record { counter = DiscontinuityCount; appends = false; reports = false }
plan_of v (activity a s) = record {
  counter = recorded_in (reported v a s || accumulated v a s);
  appends = accumulated v a s;
  reports = reported v a s;
}

-- THE ANSWER of an event that is done: the counter that rose, whether the group went into the message, the lengths of the
-- report (0 for none) and of the message now
pub record Done : Type 0 where
  pub counter : ℕ
  pub appended : Bool
  pub report_length : ℕ
  pub message_length : ℕ

-- a refusal has number and place; 10 also says whether a reply is owed
pub data Answer : Type 0 where
  done : Done → Answer
  denied : ℕ → ℕ → Bool → Answer

-- the three counters' sum, a whole number
unfoldable pub counter_sum : List ℕ → ℕ
counter_sum v = value v RecordedActivities + value v UnrecordedActivities + value v DiscontinuityCount

-- 10: the limit is not 0, and the counters' sum plus one is above it
unfoldable pub over_limit : List ℕ → Bool
over_limit v = ltb MQROUTE_UNLIMITED_ACTIVITIES (value v MaxActivities) && ltb (value v MaxActivities) (counter_sum v + 1)

unfoldable pub reply_owed : List ℕ → Bool
reply_owed v = eqb (value v Accumulate) MQROUTE_ACCUMULATE_AND_REPLY

-- a report is a 36-byte header, then the group
abbrev pub report_length : ℕ → ℕ
report_length size = 36 + size

-- what is answered of a plan that is carried out
abbrev pub done_by : Plan → ℕ → ℕ → Done
done_by p size len = record {
  counter = p.counter;
  appended = p.appends;
  report_length = cond p.reports (report_length size) 0;
  message_length = len + cond p.appends size 0;
}

-- What a plan answers for the values v, a group of `size` bytes, a message of len bytes in a buffer of `room` bytes, and
-- a report buffer of `report_room` bytes: 10; 11, the counter to raise is 2^31 - 1; 12, no room to append; 13, a report is
-- due and its buffer too short; or done.
unfoldable pub decide : List ℕ → Plan → ℕ → ℕ → ℕ → ℕ → Answer
decide v p size len room report_room =
    when (over_limit v) (denied MQFB_MAX_ACTIVITIES 0 (reply_owed v))
    (when (eqb (value v p.counter) most_count) (denied counter_full 0 false)
    (when (p.appends && not (room_for (len + size) room)) (denied no_room 0 false)
    (when (p.reports && not (leb (report_length size) report_room)) (denied report_too_short 0 false)
    (done (done_by p size len)))))

-- WHAT IS LEFT
-- the message buffer, the message's length in it, and the report buffer
pub record State : Type 0 where
  pub buf : List ℕ
  pub len : ℕ
  pub report : List ℕ

-- appended: the part as much longer as the group, the header's ParameterCount one higher, and from the part's old end on the
-- group and then the user data as it was
unfoldable pub grown : Form → Part → List ℕ → List ℕ → List ℕ → List ℕ
grown f s user b g = splice (bump s (lengthened f s (length g) b) (count_place s)) s.end (g ++ user)

abbrev pub grown_if : Bool → Form → Part → List ℕ → List ℕ → List ℕ → List ℕ
grown_if true f s user b g = grown f s user b g
grown_if false f s user b g = b

-- reported: the report's header and the group; the bytes behind it stay
unfoldable pub report_of : List ℕ → List ℕ
report_of g = words report_header_fields ++ g

abbrev pub reported_if : Bool → List ℕ → List ℕ → List ℕ
reported_if true r g = splice r 0 (report_of g)
reported_if false r g = r

-- the trace's part, and its user data
abbrev pub part_held : Layout → State → Part
part_held l st = part_in l st.buf st.len

abbrev pub user_held : Layout → State → List ℕ
user_held l st = user_data (part_held l st) st.buf st.len

-- done: the Value of the counter one higher; then as planned. No other byte changes.
unfoldable pub applied : Layout → State → List ℕ → List ℕ → Plan → State
applied l st g places p = record {
  buf = grown_if p.appends l.form (part_held l st) (user_held l st)
      (bump (part_held l st) st.buf (value_place (value places p.counter))) g;
  len = st.len + cond p.appends (length g) 0;
  report = reported_if p.reports st.report g;
}

pub record Outcome : Type 0 where
  pub answer : Answer
  pub next : State

-- a refusal leaves all as it was
abbrev pub leaving : State → State → Answer → Outcome
leaving st st' (done d) = record { answer = done d; next = st' }
leaving st st' (denied n p owed) = record { answer = denied n p owed; next = st }

-- what is decided of an event on a trace with the values v, and what it leaves if it is done
abbrev pub decided : State → Event → List ℕ → Answer
decided st e v = decide v (plan_of v e) (length (group_of e)) st.len (length st.buf) (length st.report)

abbrev pub performed : Layout → State → Event → Trace → State
performed l st e t = applied l st (group_of e) t.places (plan_of t.values e)

-- an event on a trace that is read: 9, then what is decided
unfoldable pub on_trace : Layout → State → Event → Trace → Outcome
on_trace l st e t =
    unless (sound_event e) (record { answer = denied bad_group 0 false; next = st })
    (leaving st (performed l st e t) (decided st e t.values))

abbrev pub on_read : Layout → State → Event → Result Trace → Outcome
on_read l st e (accepted t) = on_trace l st e t
on_read l st e (refused n p) = record { answer = denied n p false; next = st }

-- an event on a trace under the caller's terms
unfoldable pub event_on : Terms → State → Event → Outcome
event_on tm st e = on_read tm.layout st e (read_trace tm st.buf st.len)

-- EVENT, under a sheet and in the layout that its settings name: 17, 1, 18 and 2 to 8 as in Read, then 9 to 13
unfoldable pub event : List ℕ → State → Event → Outcome
event sheet st e = event_on (record { sheet = sheet; layout = layout_named e }) st e
