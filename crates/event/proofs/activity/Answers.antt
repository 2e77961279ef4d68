use Rattle.std.proofs.Common.{refl, sym, ◌∙◌}
use Rattle.walk.proofs.Answers.{given_on}
use Rattle.event.proofs.Found.{unread_event, unsound_event, is_ready, entered_event}
use Rattle.event.proofs.activity.Goals as goal

pub enter-requires : goal.enter-requires
enter-requires c =
    let a = c.args in
    is_ready _ _ _ a.settings _ c.in_ok-traced.ensures a.level a.group.now a.asked _ (sym c.group_ok.ensures ∙ c.if-not-group_ok.false) _ (c.plan_activity-plan.ensures a.group.now)

pub returns-in_err-traced : goal.returns-in_err-traced
returns-in_err-traced c = rw (given_on _ _ c.from_residual.ensures.1) (unread_event _ _ _ c.args.settings _ c.in_err-traced.ensures _ _ refl)

pub returns-then-not-group_ok : goal.returns-then-not-group_ok
returns-then-not-group_ok c =
    let a = c.args in
    unsound_event _ _ _ a.settings _ c.in_ok-traced.ensures a.level a.group.now a.asked _ (sym c.group_ok.ensures ∙ c.if-not-group_ok.true)

pub returns : goal.returns
returns c =
    let a = c.args in
    c.enter.ensures ∙ entered_event _ _ _ a.settings _ c.in_ok-traced.ensures a.level a.group.now a.asked _
    (sym c.group_ok.ensures ∙ c.if-not-group_ok.false) _ (c.plan_activity-plan.ensures a.group.now)
