-- What an event can see of a sound trace, and what it makes of it: nothing else sways an answer.
use Rattle.std.specs.Prelude.{ℕ, ◌+◌, false, cond, List, length, set}
use Rattle.meaning.specs.Names.{bad_group}
use Rattle.meaning.specs.Answer.{unless}
use Rattle.meaning.specs.Trace.{value}
use Rattle.meaning.specs.Event.{State, Event, Answer, done, denied, Plan, plan_of, group_of, sound_event, decide, reported_if}

-- the eight values, the message's length, the buffer's length, and the report buffer
pub record View : Type 0 where
  pub values : List ℕ
  pub len : ℕ
  pub room : ℕ
  pub report : List ℕ

abbrev pub view_of : List ℕ → State → View
view_of v st = record { values = v; len = st.len; room = length st.buf; report = st.report }

-- the values with one counter one higher
unfoldable pub risen : List ℕ → ℕ → List ℕ
risen v c = set v c (value v c + 1)

-- the view after an event that is done
unfoldable pub view_after : View → List ℕ → Plan → View
view_after w g p = record {
  values = risen w.values p.counter;
  len = w.len + cond p.appends (length g) 0;
  room = w.room;
  report = reported_if p.reports w.report g;
}

pub record Seen : Type 0 where
  pub answer : Answer
  pub next : View

abbrev pub seeing : View → View → Answer → Seen
seeing w w' (done d) = record { answer = done d; next = w' }
seeing w w' (denied n p owed) = record { answer = denied n p owed; next = w }

-- what is decided of an event with a sound group
abbrev pub verdict : View → Event → Answer
verdict w e = decide w.values (plan_of w.values e) (length (group_of e)) w.len w.room (length w.report)

-- the event, said of the view alone
unfoldable pub seen : View → Event → Seen
seen w e =
    unless (sound_event e) (record { answer = denied bad_group 0 false; next = w })
    (seeing w (view_after w (group_of e) (plan_of w.values e)) (verdict w e))
