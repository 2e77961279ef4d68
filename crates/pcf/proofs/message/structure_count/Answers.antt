-- The structures that were passed over, and what the meaning makes of their end.
use Rattle.std.proofs.Common.{arith}
use lib.Seq.{length-take-le}
use Rattle.walk.proofs.Numbering.{past}
use Rattle.pcf.proofs.Closes.{number_end, number_long}
use Rattle.pcf.proofs.message.structure_count.Goals as goal

pub overflow_cast-result : goal.overflow_cast-result
overflow_cast-result c =
    let w = past _ _ _ _ _ _ c.in_ok-passed.ensures in
    omega (arith, w.room, w.end, c.requires.room, c.requires.most, length-take-le _ c.args.msg.now c.requires.there)

pub returns-then-passed-part : goal.returns-then-passed-part
returns-then-passed-part c =
    number_end c.args.msg.now c.args.opening.part _ c.requires.there _ _ (past _ _ _ _ _ _ c.in_ok-passed.ensures) c.if-passed-part.true

pub returns-else-passed-part : goal.returns-else-passed-part
returns-else-passed-part c =
    number_long c.args.msg.now c.args.opening.part _ c.requires.there _ _ (past _ _ _ _ _ _ c.in_ok-passed.ensures) c.if-passed-part.false
