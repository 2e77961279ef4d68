-- The loop's invariant: what is left to write, the last `left` digits of `rest`, would complete the text of v.
use Rattle.std.proofs.Common.{◌≡◌}
use Rattle.meaning.specs.Bytes.{splice}
use Rattle.meaning.specs.Listing.{decimal}
use Rattle.meaning.proofs.Decimals.{last_digits}
use Rattle.text.proofs.put_decimal.Given as goal

abbrev pub invariant-loop-left : goal.invariant-loop-left
invariant-loop-left l = splice l.out l.at (last_digits l.left l.rest) ≡ splice l.fn.out l.at (decimal l.v)
