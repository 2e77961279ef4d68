-- `put_line` meets its contract: five columns, one behind the other.
use Rattle.text.proofs.Laws.{then}
use Rattle.meaning.specs.Listing.{row_line}
use Rattle.text.specs.Lines.{line_text}
use Rattle.text.proofs.put_line.Goals as goal

pub returns : goal.returns
unfolding line_text row_line
returns c = then c.put_column-a.ensures (then c.put_column-b.ensures (then c.put_column-c.ensures (then c.put_column-d.ensures (λ h. c.put_column.ensures)))) c.requires
