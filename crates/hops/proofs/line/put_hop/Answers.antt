-- Three columns, the name, and the line's end.
use Rattle.text.proofs.Laws.{then}
use Rattle.hops.specs.Hops.{hop_line}
use Rattle.hops.proofs.Names.{line_end}
use Rattle.hops.proofs.line.put_hop.Goals as goal

pub returns : goal.returns
unfolding hop_line
returns c = then c.put_column-a.ensures (then c.put_column-b.ensures (then c.put_column-c.ensures (line_end c.put_name-end.ensures))) c.requires
