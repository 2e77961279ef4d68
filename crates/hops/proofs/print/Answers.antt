-- For every input, sheet and identifier.
use Rattle.std.proofs.Common.{arith}
use Rattle.hops.proofs.Entries.{lost_place, lost_text, due, end_room, found_text}
use Rattle.hops.proofs.print.Goals as goal

pub refused_line-requires : goal.refused_line-requires
refused_line-requires c = lost_place _ _ c.args.id c.args.out.now _ _ c.in-Err.ensures

pub put_groups-groups-requires : goal.put_groups-groups-requires
put_groups-groups-requires c = due _ _ c.args.id _ _ c.in-Ok.ensures (omega arith)

pub put_end-requires : goal.put_end-requires
put_end-requires c = end_room _ _ _ _ _ c.in-Ok.ensures (omega arith) _ _ c.put_groups-groups.ensures

pub returns-in-Err : goal.returns-in-Err
returns-in-Err c = lost_text _ _ _ _ _ _ c.in-Err.ensures _ _ c.refused_line.ensures

pub returns-in-Ok : goal.returns-in-Ok
returns-in-Ok c = found_text _ _ _ _ _ c.in-Ok.ensures (omega arith) _ _ c.put_groups-groups.ensures _ _ c.put_end.ensures
