-- `put_decimal` meets its contract: each turn writes a digit.
use Rattle.std.proofs.Common.{sym, ap, ◌∙◌, arith}
use Rattle.meaning.specs.Bytes.{splice}
use Rattle.meaning.proofs.Decimals.{last_all}
use Rattle.text.proofs.Laws.{turn, done}
use Rattle.text.proofs.put_decimal.Goals as goal

pub loop-left-init : goal.loop-left-init
loop-left-init c = rw c.width-count.ensures (ap (splice c.args.out.now c.args.at) (last_all c.args.v))

pub loop-left-preserved : goal.loop-left-preserved
loop-left-preserved c =
    turn c.loop-left.out c.args.at c.loop-left.left c.loop-left.rest (omega arith) (omega arith) ∙ c.loop-left.invariant

pub returns : goal.returns
returns c =
    record {
      bytes = sym (done c.loop-left.out c.args.at c.loop-left.left c.loop-left.rest (omega arith)) ∙ c.loop-left.invariant;
      place = omega arith;
    }
