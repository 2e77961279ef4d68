-- `put_header` meets its contract: a word, then four columns.
use Rattle.text.proofs.Laws.{then}
use Rattle.text.specs.Lines.{header_text}
use Rattle.text.proofs.put_header.Goals as goal

pub returns : goal.returns
unfolding header_text
returns c = then c.put_word-a.ensures (then c.put_column-b.ensures (then c.put_column-c.ensures (then c.put_column-d.ensures (λ h. c.put_column.ensures)))) c.requires
