use Rattle.std.proofs.Common.{◌∙◌, arith}
use Rattle.hops.proofs.Loops.{header_there, header_count, begun, ready, counted, passed_by, finished}
use Rattle.hops.proofs.groups.put_groups.Goals.{in-Some, in_default}
use Rattle.hops.proofs.groups.put_groups.Goals as goal

pub number_at-count-requires : goal.number_at-count-requires
number_at-count-requires c = omega (arith, header_there _ _ c.args.id _ _ c.requires)

pub loop-k-init : goal.loop-k-init
loop-k-init c = (c.number_at-count.ensures ∙ header_count _ _ c.args.id _ _ c.requires, omega arith, begun _ _ _ _ _ c.requires)

pub put_group-requires : goal.put_group-requires
put_group-requires c = ready _ _ _ _ _ _ _ c.loop-k.invariant.2 (omega arith) _ c.in-Some.ensures

pub loop-k-preserved : goal.loop-k-preserved
loop-k-preserved c = (
  c.loop-k.invariant.0,
  omega arith,
  elim c.match-spot_at.branch [
    | in-Some w ↦ rw (w.out-is, w.groups-is) (counted _ _ _ _ _ _ _ c.loop-k.invariant.2 (omega arith) _ w.in-Some.ensures _ _ w.put_group.ensures)
    | in_default w ↦ rw (w.out-is, w.groups-is) (passed_by _ _ _ _ _ _ _ c.loop-k.invariant.2 (omega arith) w.in_default.ensures)
  ],
)

pub returns : goal.returns
returns c = finished _ _ _ _ _ _ _ c.loop-k.invariant.2 (omega arith)
