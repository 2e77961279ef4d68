-- All marks are places exactly where each identifier has one integer, and then they are the meaning's places.
use Rattle.std.proofs.Common.{◌≤◌, ◌+◌, ℕ, List, sym, ◌∙◌, arith}
use Rattle.meaning.specs.Bytes.{Part, whole}
use Rattle.meaning.specs.Structure.{Row}
use Rattle.meaning.specs.Walk.{walk, rows_in}
use Rattle.meaning.specs.Trace.{direct_in}
use Rattle.trace.proofs.Marking.{found_none, found_some, every_place}
use Rattle.trace.proofs.Locating.{every_member, attributes_unfound, attributes_unranged, attributes_found}
use Rattle.trace.proofs.location.attributes.Goals as goal

-- the direct members of the group
abbrev members_of : Part → ℕ → ℕ → List Row
members_of m inside count = direct_in (rows_in (walk m inside 2 count))

pub returns-in_default : goal.returns-in_default
returns-in_default c =
    let a = c.args in
    let m = whole a.s.now in
    attributes_unfound a.sheet m (members_of m a.route.inside a.route.members) a.activity a.part
    (found_none a.sheet (omega arith) _ _ c.marks_of-marks.ensures c.in_default.ensures)

pub values_at-values-requires : goal.values_at-values-requires
values_at-values-requires c j h =
    let a = c.args in
    let m = whole a.s.now in
    let f = found_some a.sheet (omega arith) _ _ c.marks_of-marks.ensures c.in-Some.places c.in-Some.ensures in
    rw f.1 (every_place (members_of m a.route.inside a.route.members) (λ q. q + 16 ≤ m.end) (every_member m a.route.inside a.route.members) a.sheet f.0 j (omega arith))

pub returns-then-not-in_range : goal.returns-then-not-in_range
returns-then-not-in_range c =
    let a = c.args in
    let m = whole a.s.now in
    let f = found_some a.sheet (omega arith) _ _ c.marks_of-marks.ensures c.in-Some.places c.in-Some.ensures in
    attributes_unranged a.sheet m (members_of m a.route.inside a.route.members) a.activity a.part f.0 _ _ f.1
    c.values_at-values.ensures (sym c.in_range.ensures ∙ c.if-not-in_range.true)

pub returns : goal.returns
returns c =
    let a = c.args in
    let m = whole a.s.now in
    let f = found_some a.sheet (omega arith) _ _ c.marks_of-marks.ensures c.in-Some.places c.in-Some.ensures in
    attributes_found a.sheet m (members_of m a.route.inside a.route.members) a.activity a.part f.0 _ _ f.1
    c.values_at-values.ensures (sym c.in_range.ensures ∙ c.if-not-in_range.false)
