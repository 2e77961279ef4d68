-- The line is made of the parts that were handed out.
use Rattle.std.proofs.Common.{refl}
use Rattle.hops.proofs.Parts.{line_room, line_wrote}
use Rattle.hops.proofs.groups.put_group.Goals as goal

pub put_hop-requires : goal.put_hop-requires
put_hop-requires c = line_room _ _ c.requires c.activity_group-group.ensures c.named_string-name.ensures refl

pub returns : goal.returns
returns c = line_wrote _ _ c.requires c.activity_group-group.ensures c.named_string-name.ensures refl c.put_hop.ensures
