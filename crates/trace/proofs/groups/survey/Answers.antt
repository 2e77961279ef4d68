-- A structure that was passed over is the first of those that are left; the others are those behind it.
use Rattle.std.proofs.Common.{◌≡◌, ◌+◌, ◌-◌, ◌≤◌, refl, sym, ◌∙◌, arith}
use Rattle.trace.proofs.Turns.{one_left, over}
use Rattle.trace.proofs.Surveys.{survey_end, survey_halt, survey_next, survey_other, count_le, countable}
use Rattle.trace.proofs.groups.survey.Goals as goal
use Rattle.trace.proofs.groups.survey.Goals.{then-row-eq-MQCFT_GROUP, else-row-eq-MQCFT_GROUP}

pub returns-in-Err : goal.returns-in-Err
returns-in-Err c =
    let due = one_left c.args.count c.loop.counter c.loop-test.true in
    sym (c.loop.invariant.0 ∙ survey_halt _ _ _ _ _ _ _ due _ _ (sym c.in-Err.ensures))

pub count_row-routes-requires : goal.count_row-routes-requires
count_row-routes-requires c = countable _ _ _ _ _ _ _ c.in-Ok.ensures c.if-row-eq-MQCFT_GROUP.true c.loop.invariant.1 c.loop-test.true c.ranges.count.fits

pub count_row-activities-requires : goal.count_row-activities-requires
count_row-activities-requires c = countable _ _ _ _ _ _ _ c.in-Ok.ensures c.if-row-eq-MQCFT_GROUP.true c.loop.invariant.2 c.loop-test.true c.ranges.count.fits

-- after a group, and after any other structure
pub loop-preserved : goal.loop-preserved
loop-preserved c =
    let o = over _ _ _ _ _ (sym c.in-Ok.ensures) in
    let due = one_left c.args.count c.loop.counter c.loop-test.true in
    elim c.if-row-eq-MQCFT_GROUP.branch [
      | then-row-eq-MQCFT_GROUP w ↦
          let e = w.count_row-routes.ensures in
          let f = w.count_row-activities.ensures in
          let a : w.count_row-routes.result.count ≤ c.loop.routes.count + 1 = rw e (count_le _ _ _ _ _) in
          let b : w.count_row-activities.result.count ≤ c.loop.activities.count + 1 = rw f (count_le _ _ _ _ _) in (
            rw (w.at-is, w.routes-is, w.activities-is) (c.loop.invariant.0 ∙ survey_next _ _ _ _ _ _ _ due _ _ o ∙ rw (← e, ← f) refl),
            rw w.routes-is (omega (arith, a, c.loop.invariant.1)),
            rw w.activities-is (omega (arith, b, c.loop.invariant.2)),
          )
      | else-row-eq-MQCFT_GROUP w ↦ (
        rw (w.at-is, w.routes-is, w.activities-is) (c.loop.invariant.0 ∙ survey_other _ _ _ _ _ _ _ due _ _ o w.if-row-eq-MQCFT_GROUP.false),
        rw w.routes-is (omega (arith, c.loop.invariant.1)),
        rw w.activities-is (omega (arith, c.loop.invariant.2)),
      )
    ]

pub returns : goal.returns
returns c =
    let z : c.args.count - c.loop.counter ≡ 0 = omega (arith, c.loop-test.false) in
    sym (c.loop.invariant.0 ∙ survey_end _ _ _ _ _ _ z)
