-- The first k integers are written behind the group's header.
use Rattle.std.proofs.Common.{◌≡◌, length}
use Rattle.meaning.specs.Bytes.{words, splice}
use Rattle.compose.proofs.Composing.{first_of}
use Rattle.compose.proofs.composition.put_trace.Given as goal

abbrev pub invariant-loop-k : goal.invariant-loop-k
invariant-loop-k l =
    (length l.buf ≡ length l.fn.buf) × (l.buf ≡ splice l.initial.buf 52 (words (first_of l.sheet l.values l.k)))
