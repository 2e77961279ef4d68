use Rattle.std.proofs.Common.{rules, arith}
use Rattle.hops.proofs.Names.{shown_length, one_more}
use Rattle.hops.proofs.name.put_name.Goals as goal

pub loop-i-preserved : goal.loop-i-preserved
loop-i-preserved c = (
  search rules,
  omega arith,
  one_more c.args.out.now c.args.at c.args.name.now c.loop-i.out c.loop-i.i _ c.loop-i.invariant.2 (omega arith)
      (omega (arith, shown_length c.args.name.now)) c.shown_byte.ensures,
)
