-- A trace as the code hands it out, in the meaning's terms.
use Rattle.std.specs.Prelude.{ℕ, ◌+◌, ◌≤◌, ◌≡◌, true, ◌&&◌, List, length, take, eqb}
use Rattle.meaning.specs.Bytes.{Part, whole, number}
use Rattle.meaning.specs.Names.{no_trace_header, no_trace_route, bad_attribute, MQGACF_ACTIVITY}
use Rattle.meaning.specs.Answer.{Result, accepted, refused, and_then, unless}
use Rattle.meaning.specs.Structure.{Row}
use Rattle.meaning.specs.Walk.{rows_in, walk}
use Rattle.meaning.specs.Layout.{part_in}
use Rattle.meaning.specs.Message.{header_ok}
use Rattle.meaning.specs.Trace.{trace_header, direct_in, each_once, places_of, values_at, in_range, Terms, Trace, read_trace}
use Rattle.layout.specs.Layouts.{part_at}
use Rattle.layout.specs.declared.part.Part.{Part as PartIn}
use Rattle.pcf.specs.declared.message.Opening.{Opening}
use Rattle.trace.specs.Passing.{is_sound}
use Rattle.trace.specs.Groups.{counted}
use Rattle.trace.specs.declared.groups.Group.{Group}
use Rattle.trace.specs.declared.groups.Counted.{Counted}
use Rattle.trace.specs.declared.location.Traced.{Traced}

-- where a part lies
abbrev pub lying : Part → PartIn
lying m = record { start = m.start; end = m.end }

-- THE PLACES AND THE VALUES of what Read gives, and its n-th Activity group
abbrev pub traced : ℕ → Part → Trace → Traced
traced n m t = record { places = t.places; values = t.values; activity = (counted MQGACF_ACTIVITY n t.rows).group; part = lying m }

abbrev pub traced_by : ℕ → Terms → List ℕ → ℕ → Result Traced
traced_by n tm buf len = and_then (read_trace tm buf len) (λ t. accepted (traced n (part_in tm.layout buf len) t))

-- 8, by the direct members
unfoldable pub attributes_by : List ℕ → Part → List Row → Group → PartIn → Result Traced
attributes_by sheet m members activity part =
    unless (each_once sheet members && in_range (values_at m (places_of sheet members))) (refused bad_attribute 0)
    (accepted (record { places = places_of sheet members; values = values_at m (places_of sheet members); activity = activity; part = part }))

-- 8, by the members of the group whose first one is at `inside`
abbrev pub attributes_in : List ℕ → Part → ℕ → ℕ → Group → PartIn → Result Traced
attributes_in sheet m inside members activity part = attributes_by sheet m (direct_in (rows_in (walk m inside 2 members))) activity part

-- 6, 7, 8, by the TraceRoute groups that were counted
unfoldable pub judged_in : List ℕ → Part → Counted → Group → Result Traced
judged_in sheet m routes activity =
    unless (trace_header m) (refused no_trace_header 0)
    (unless (eqb routes.count 1) (refused no_trace_route 0)
    (attributes_in sheet m routes.group.inside routes.group.members activity (lying m)))

-- the header is sound, its count is known, and the members of a group that was counted are sound
pub record Headed (msg : List ℕ) (o : Opening) (routes : Counted) : Type 0 where
  pub there : o.part.end ≤ length msg
  pub least : o.part.start + 36 ≤ o.part.end
  pub sound : header_ok (part_at msg o.part) ≡ true
  pub read : o.count ≡ number msg (o.part.start + 32)
  pub within : routes.count ≡ 1 → is_sound (walk (whole (take o.part.end msg)) routes.group.inside 2 routes.group.members) ≡ true
