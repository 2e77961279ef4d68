-- The invariant: the first i bytes are copied, and the rest is as it was.
use Rattle.std.proofs.Common.{◌≡◌, length}
use lib.Seq.{paste}
use Rattle.wire.proofs.copy.Given as goal

abbrev pub invariant-loop-i : goal.invariant-loop-i
invariant-loop-i l = (length l.to ≡ length l.fn.to) × (l.to ≡ paste l.fn.to 0 l.from l.i)
