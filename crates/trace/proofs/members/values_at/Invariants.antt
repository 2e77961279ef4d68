-- The invariant: the first k values are read.
use Rattle.std.proofs.Common.{◌≡◌, ◌+◌, length, get_or}
use Rattle.meaning.specs.Bytes.{number}
use Rattle.meaning.proofs.Lists.{Filled}
use Rattle.trace.proofs.members.values_at.Given as goal

abbrev pub invariant-loop-k : goal.invariant-loop-k
invariant-loop-k l = (length l.values ≡ 8) × Filled (λ j. number l.s (get_or l.places j 0 + 12)) l.values l.k
