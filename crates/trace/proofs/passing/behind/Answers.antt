-- The structure is sound, so that its fields are its row's, and its members are sound too.
use Rattle.std.proofs.Common.{arith}
use Rattle.walk.proofs.Numbering.{past, past_fault}
use Rattle.trace.proofs.Skipping.{behind_plain, behind_shallow, behind_never, behind_group}
use Rattle.trace.proofs.passing.behind.Goals as goal

pub returns-then-number_at-ne-MQCFT_GROUP : goal.returns-then-number_at-ne-MQCFT_GROUP
returns-then-number_at-ne-MQCFT_GROUP c =
    behind_plain (record { sound = c.requires; is_size = c.number_at.ensures; is_kind = c.number_at-2.ensures }) c.if-number_at-ne-MQCFT_GROUP.true

pub overflow_add-depth : goal.overflow_add-depth
overflow_add-depth c =
    omega (arith, behind_shallow (record { sound = c.requires; is_size = c.number_at.ensures; is_kind = c.number_at-2.ensures }) c.if-number_at-ne-MQCFT_GROUP.false)

pub unreachable-requires : goal.unreachable-requires
unreachable-requires c =
    behind_never (record { sound = c.requires; is_size = c.number_at.ensures; is_kind = c.number_at-2.ensures }) c.if-number_at-ne-MQCFT_GROUP.false _ c.number_at-3.ensures _ _
    (past_fault _ _ _ _ _ _ c.in-Err.ensures)

pub returns : goal.returns
returns c =
    let w = past _ _ _ _ _ _ c.in-Ok.ensures in
    behind_group (record { sound = c.requires; is_size = c.number_at.ensures; is_kind = c.number_at-2.ensures }) c.if-number_at-ne-MQCFT_GROUP.false _ c.number_at-3.ensures w.rows _ w.over
