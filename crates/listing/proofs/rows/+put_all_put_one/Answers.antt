-- What one turn does is said over plain lists and numbers in Turns.antt.
use Rattle.std.proofs.Common.{arith}
use Rattle.listing.proofs.Turns.{its, line_room, group_due, group_done, plain_done, first_due, first_done, all_done}
use Rattle.listing.proofs.rows.+put_all_put_one.Goals as goal

pub put_all-put_one-behind-requires : goal.put_all-put_one-behind-requires
put_all-put_one-behind-requires t c =
    (omega (arith, c.decreases), first_due _ _ _ _ _ _ _ _ _ c.loop.invariant (omega arith))

pub put_all-loop-preserved : goal.put_all-loop-preserved
put_all-loop-preserved t c =
    first_done _ _ _ _ _ _ _ _ _ c.loop.invariant _ _ (omega arith) c.put_one-behind.auto.out c.put_one-behind.ensures

pub put_all-returns : goal.put_all-returns
put_all-returns t c = all_done _ _ _ _ _ _ _ _ _ c.loop.invariant (omega arith)

pub put_one-line_at-line-requires : goal.put_one-line_at-line-requires
put_one-line_at-line-requires t c =
    (omega (arith, (its _ _ _ _ _ c.requires).least, (its _ _ _ _ _ c.requires).fits), c.requires.small)

pub put_one-put_line-text-requires : goal.put_one-put_line-text-requires
put_one-put_line-text-requires t c =
    line_room _ _ _ _ _ c.requires _ c.line_at-line.ensures

pub put_one-number_at-members-requires : goal.put_one-number_at-members-requires
put_one-number_at-members-requires t c =
    omega (arith, (its _ _ _ _ _ c.requires).least, (its _ _ _ _ _ c.requires).fits)

pub put_one-put_all-requires : goal.put_one-put_all-requires
put_one-put_all-requires t c = (
  omega (arith, c.decreases, c.requires.shallow),
  group_due _ _ _ _ _ c.requires _ _ _ _ c.line_at-line.ensures c.number_at-members.ensures c.if-line-eq-MQCFT_GROUP.true c.put_line-text.ensures,
)

pub put_one-returns-then-line-eq-MQCFT_GROUP : goal.put_one-returns-then-line-eq-MQCFT_GROUP
put_one-returns-then-line-eq-MQCFT_GROUP t c =
    group_done _ _ _ _ _ c.requires _ _ _ _ _ _ c.line_at-line.ensures c.number_at-members.ensures c.if-line-eq-MQCFT_GROUP.true c.put_line-text.ensures c.put_all.ensures

pub put_one-returns-else-line-eq-MQCFT_GROUP : goal.put_one-returns-else-line-eq-MQCFT_GROUP
put_one-returns-else-line-eq-MQCFT_GROUP t c =
    plain_done _ _ _ _ _ c.requires _ _ _ c.line_at-line.ensures c.if-line-eq-MQCFT_GROUP.false c.put_line-text.ensures
