use Rattle.std.proofs.Common.{length-set, arith}
use Rattle.meaning.proofs.Lists.{filled_next}
use Rattle.trace.proofs.Marking.{values_read}
use Rattle.trace.proofs.members.values_at.Goals as goal

-- one value more is read
pub loop-k-preserved : goal.loop-k-preserved
loop-k-preserved c =
    (simp length-set c.loop-k.invariant.0, filled_next _ c.loop-k.values c.loop-k.k _ (omega arith) c.loop-k.invariant.1 c.number_at.ensures)

pub returns : goal.returns
returns c =
    values_read c.args.s.now c.args.places c.loop-k.values (omega arith) c.loop-k.invariant.0 (λ j h. c.loop-k.invariant.1 j (omega arith))
