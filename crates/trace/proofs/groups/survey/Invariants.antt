-- The invariant: what is counted from here on, with what was counted before, is what the whole walk comes to; and no count is
-- above the structures gone over.
use Rattle.std.proofs.Common.{◌≡◌, ◌-◌, ◌≤◌}
use Rattle.meaning.specs.Walk.{walk}
use Rattle.meaning.specs.Bytes.{whole}
use Rattle.trace.specs.Groups.{surveyed}
use Rattle.trace.proofs.Surveys.{survey_from}
use Rattle.trace.proofs.groups.survey.Given as goal

abbrev pub invariant-loop : goal.invariant-loop
invariant-loop l =
    (surveyed l.n (walk (whole l.s) l.first 1 l.count) ≡ survey_from l.n l.routes l.activities (walk (whole l.s) l.at 1 (l.count - l.counter)))
    × (l.routes.count ≤ l.counter) × (l.activities.count ≤ l.counter)
