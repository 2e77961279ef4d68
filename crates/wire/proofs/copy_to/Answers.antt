-- the part from `at` on, written from its start
use Rattle.meaning.proofs.Splices.{splice_lent}
use Rattle.wire.proofs.copy_to.Goals as goal

pub returns : goal.returns
returns c = rw c.copy.ensures (splice_lent _ _ _)
