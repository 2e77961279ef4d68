use Rattle.std.proofs.Common.{refl, sym, ◌∙◌, arith}
use Rattle.event.proofs.Entries.{group_most, length_most, place_most, ready_writable, ready_reportable, ready_written}
use Rattle.event.proofs.entered.enter.Goals as goal

pub decide-requires : goal.decide-requires
decide-requires c = (group_most _ _ _ _ _ _ _ c.requires, length_most _ _ _ _ _ _ _ c.requires)

pub overflow_add-traced : goal.overflow_add-traced
overflow_add-traced c = omega (arith, place_most _ _ _ _ _ _ _ c.requires c.index-i.result c.index-i.ensures.low)

pub write_message-requires : goal.write_message-requires
write_message-requires c =
    rw c.index-i.ensures.is (ready_writable _ _ _ _ _ _ _ c.requires _ (sym c.in_ok-done.ensures))

pub write_report-requires : goal.write_report-requires
write_report-requires c = ready_reportable _ _ _ _ _ _ _ c.requires _ (sym c.in_ok-done.ensures) c.if-plan.true

pub returns-then-plan : goal.returns-then-plan
returns-then-plan c =
    ready_written _ _ _ _ _ _ _ c.requires _ (sym c.in_ok-done.ensures) _ _ (rw (← c.index-i.ensures.is) c.write_message.ensures)
    (c.write_report.ensures ∙ rw c.if-plan.true refl)

pub returns-else-plan : goal.returns-else-plan
returns-else-plan c =
    ready_written _ _ _ _ _ _ _ c.requires _ (sym c.in_ok-done.ensures) _ _ (rw (← c.index-i.ensures.is) c.write_message.ensures) (rw c.if-plan.false refl)
