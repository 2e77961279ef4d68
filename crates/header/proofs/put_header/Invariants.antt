-- The invariant: the first i fields are written.
use Rattle.std.proofs.Common.{◌≡◌, length, take}
use Rattle.meaning.specs.Bytes.{words, splice}
use Rattle.header.specs.Headers.{fields_of}
use Rattle.header.proofs.put_header.Given as goal

abbrev pub invariant-loop-i : goal.invariant-loop-i
invariant-loop-i l = (length l.buf ≡ length l.fn.buf) × (l.buf ≡ splice l.fn.buf 0 (words (take l.i (fields_of l.kind))))
