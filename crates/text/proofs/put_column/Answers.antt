-- `put_column` meets its contract: one byte behind a number's text.
use Rattle.std.proofs.Common.{arith}
use Rattle.meaning.specs.Listing.{column}
use Rattle.meaning.proofs.Decimals.{length-column}
use Rattle.text.proofs.Laws.{push}
use Rattle.text.proofs.put_column.Goals as goal

pub returns : goal.returns
unfolding column
returns c = push c.args.behind c.put_decimal-end.ensures (omega (arith, length-column c.args.v c.args.behind))
