-- `put_end` meets its contract: a word, then a column.
use Rattle.text.proofs.Laws.{then}
use Rattle.meaning.specs.Listing.{end_line}
use Rattle.text.proofs.put_end.Goals as goal

pub returns : goal.returns
unfolding end_line
returns c = then c.put_word-a.ensures (λ h. c.put_column.ensures) c.requires
