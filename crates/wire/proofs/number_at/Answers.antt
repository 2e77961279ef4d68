-- the four bytes, swapped, are the number
use Rattle.meaning.specs.Bytes.{number}
use Rattle.wire.proofs.LeastFirst.{swapped}
use Rattle.wire.proofs.number_at.Goals as goal

pub returns : goal.returns
unfolding number
returns c = swapped c.four_at.ensures c.swap_bytes.ensures
