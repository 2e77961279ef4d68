-- What the code knows while it goes over the top-level structures of a trace.
use Rattle.std.specs.Prelude.{ℕ, ◌+◌, ◌≤◌, ◌≡◌, ◌&&◌, List, length, eqb, Option, Some, None}
use Rattle.meaning.specs.Names.{MQCFT_GROUP, MQGACF_ACTIVITY}
use Rattle.meaning.specs.Answer.{Result, accepted, refused, when}
use Rattle.meaning.specs.Layout.{part_in}
use Rattle.meaning.specs.Message.{Stepped}
use Rattle.meaning.specs.Trace.{Terms, Trace, activities, read_trace}
use Rattle.meaning.specs.Activity.{activity_group}
use Rattle.text.specs.Wrote.{Room, Wrote}
use Rattle.trace.specs.Locations.{lying}
use Rattle.layout.specs.declared.part.Part.{Part as PartIn}
use Rattle.hops.specs.Hops.{hop_of, hop_lines}
use Rattle.hops.specs.declared.groups.Groups.{Groups}

-- the place of a structure that the reader has found, if that is an Activity group
abbrev pub spot_in : Result Stepped → Option ℕ
spot_in (accepted s) =
    when (eqb s.row.kind MQCFT_GROUP && eqb s.row.parameter MQGACF_ACTIVITY) (Some s.row.place) None
spot_in (refused k p) = None

-- the n-th Activity group is at `place`, and its line has room from `at` on
pub record Reached (tm : Terms) (msg : List ℕ) (id n place : ℕ) (out : List ℕ) (at : ℕ) : Type 0 where
  pub placed : place ≡ (activity_group tm msg (length msg) n).place
  pub near : place ≤ 65536
  pub within : place + (activity_group tm msg (length msg) n).length ≤ length msg
  pub short : (activity_group tm msg (length msg) n).length ≤ 65536
  pub few : n ≤ 65536
  pub room : Room out at (hop_of tm msg id n)

-- a sound trace, which is this part of its message, whose lines are due
pub record LinesDue (tm : Terms) (msg : List ℕ) (part : PartIn) (out : List ℕ) : Type 0 where
  pub trace : Trace
  pub sound : read_trace tm msg (length msg) ≡ accepted trace
  pub lies : part ≡ lying (part_in tm.layout msg (length msg))
  pub room : 131072 ≤ length out

-- how many Activity groups there are
abbrev pub groups_of : Result Trace → ℕ
groups_of (accepted t) = length (activities t.rows)
groups_of (refused k p) = 0

-- all lines are written, and the last line still has room
pub record LinesDone (tm : Terms) (msg : List ℕ) (id : ℕ) (before after : List ℕ) (r : Groups) : Type 0 where
  pub count : r.count ≡ groups_of (read_trace tm msg (length msg))
  pub wrote : Wrote before 0 (hop_lines tm msg id r.count) after r.text
  pub short : r.text + 15 ≤ 131072
