-- Top-level groups as the code hands them out, in the meaning's terms.
use Rattle.std.specs.Prelude.{◌≡◌, ℕ, ◌+◌, ◌-◌, ◌≤◌, ◌<◌, ◌&&◌, List, length, get_or, eqb}
use Rattle.meaning.specs.Names.{MQCFT_GROUP, MQGACF_TRACE_ROUTE, MQGACF_ACTIVITY}
use Rattle.meaning.specs.Answer.{Result, accepted, and_then, when}
use Rattle.meaning.specs.Structure.{Row}
use Rattle.meaning.specs.Walk.{Walked}
use Rattle.meaning.specs.Trace.{Top, groups}
use Rattle.meaning.specs.Activity.{size_of, no_group}
use Rattle.trace.specs.declared.groups.Group.{Group}
use Rattle.trace.specs.declared.groups.Counted.{Counted}
use Rattle.trace.specs.declared.groups.Tops.{Tops}

abbrev pub no_group_yet : Group
no_group_yet = record { place = 0; inside = 0; length = 0; members = 0 }

abbrev pub none_yet : Counted
none_yet = record { count = 0; group = no_group_yet }

-- a group with all that is inside it
unfoldable pub whole_group : Top → Group
whole_group t =
    record { place = t.row.place; inside = t.row.place + t.row.size; length = t.row.size + size_of t.inside; members = t.row.members }

-- the top-level groups with an identifier: how many there are, and the n-th
unfoldable pub counted : ℕ → ℕ → List Row → Counted
counted id n rows = record { count = length (groups id rows); group = whole_group (get_or (groups id rows) n no_group) }

-- one more structure with the row r, which ends before q
unfoldable pub count_row : ℕ → ℕ → Counted → Row → ℕ → Counted
count_row id n c r q =
    when (eqb r.kind MQCFT_GROUP && eqb r.parameter id)
    (record {
      count = c.count + 1;
      group = when (eqb c.count n) (record { place = r.place; inside = r.place + r.size; length = q - r.place; members = r.members }) c.group;
    })
    c

-- the structure is a group that ends before q, and the count does not run over
pub record CountableGroup (c : Counted) (r : Row) (q : ℕ) : Type 0 where
  pub a_group : r.kind ≡ MQCFT_GROUP
  pub few : c.count < 4294967296
  pub ends : r.place + r.size ≤ q

-- what the top-level structures of a walk come to
abbrev pub tops_of : ℕ → Walked → Tops
tops_of n w =
    record { behind = w.next; routes = counted MQGACF_TRACE_ROUTE 0 w.rows; activities = counted MQGACF_ACTIVITY n w.rows }

abbrev pub surveyed : ℕ → Result Walked → Result Tops
surveyed n w = and_then w (λ x. accepted (tops_of n x))
