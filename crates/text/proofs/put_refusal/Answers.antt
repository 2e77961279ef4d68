-- `put_refusal` meets its contract: a word, then two columns.
use Rattle.text.proofs.Laws.{then}
use Rattle.meaning.specs.Listing.{refusal_line}
use Rattle.text.proofs.put_refusal.Goals as goal

pub returns : goal.returns
unfolding refusal_line
returns c = then c.put_word-a.ensures (then c.put_column-b.ensures (λ h. c.put_column.ensures)) c.requires
