use Rattle.std.proofs.Common.{refl, ◌∙◌, arith}
use Rattle.meaning.specs.Event.{discontinuity}
use Rattle.verdict.specs.Plans.{settings_of}
use Rattle.walk.proofs.Answers.{given_on}
use Rattle.event.proofs.Entries.{count_length, count_place_holds, count_denied, count_writable, count_written}
use Rattle.event.proofs.Found.{unread_event, is_countable, counted_event}
use Rattle.event.proofs.discontinuity.Goals as goal

pub decide-requires : goal.decide-requires
decide-requires c = (omega arith, count_length _ _ _ _ (is_countable _ _ _ c.args.settings _ c.in_ok-traced.ensures))

pub overflow_add-traced : goal.overflow_add-traced
overflow_add-traced c = omega (arith, count_place_holds _ _ _ _ (is_countable _ _ _ c.args.settings _ c.in_ok-traced.ensures))

pub overflow_add-traced-2 : goal.overflow_add-traced-2
overflow_add-traced-2 c =
    let w = count_writable _ _ _ _ (is_countable _ _ _ c.args.settings _ c.in_ok-traced.ensures) _ (c.plan_discontinuity.ensures _ _) _ c.in_ok-done.ensures in
    omega (arith, w.value_fits)

pub put_number-requires : goal.put_number-requires
put_number-requires c =
    let w = count_writable _ _ _ _ (is_countable _ _ _ c.args.settings _ c.in_ok-traced.ensures) _ (c.plan_discontinuity.ensures _ _) _ c.in_ok-done.ensures in
    omega (arith, w.inside, w.within, w.message)

pub returns-in_err-traced : goal.returns-in_err-traced
returns-in_err-traced c report =
    rw (given_on _ _ c.from_residual.ensures.1) (unread_event _ _ _ c.args.settings _ c.in_err-traced.ensures report (discontinuity (settings_of c.args.settings)) refl)

pub returns-in_err-done : goal.returns-in_err-done
returns-in_err-done c report =
    rw (given_on _ _ c.from_residual-in_err-done.ensures.1)
    (count_denied _ _ _ _ (is_countable _ _ _ c.args.settings _ c.in_ok-traced.ensures) _ (c.plan_discontinuity.ensures _ _) _ _ _ c.in_err-done.ensures report
    ∙ counted_event _ _ _ c.args.settings _ c.in_ok-traced.ensures report)

pub returns : goal.returns
returns c report =
    count_written _ _ _ _ (is_countable _ _ _ c.args.settings _ c.in_ok-traced.ensures) _ (c.plan_discontinuity.ensures _ _) _ c.in_ok-done.ensures _ c.put_number.ensures report
    ∙ counted_event _ _ _ c.args.settings _ c.in_ok-traced.ensures report
