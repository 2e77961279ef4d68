-- `composition::put_trace` meets its contract: one integer more in each turn.
use Rattle.std.proofs.Common.{◌≡◌, sym, ◌∙◌, arith}
use Rattle.meaning.specs.Bytes.{words}
use Rattle.meaning.specs.Compose.{integers}
use Rattle.meaning.proofs.Splices.{splice-none}
use Rattle.compose.proofs.Composing.{integer_next, whole}
use Rattle.compose.proofs.composition.put_trace.Goals as goal

pub loop-k-init : goal.loop-k-init
unfolding integers words
loop-k-init c = (omega arith, sym (splice-none _ 52))

pub loop-k-preserved : goal.loop-k-preserved
loop-k-preserved c = (
  omega arith,
  c.put_four-in-loop-k.ensures
      ∙ rw c.loop-k.invariant.1 (integer_next c.put_four.new.buf c.args.sheet c.args.values (omega arith) (omega arith) (omega arith) c.loop-k.k (omega arith)),
)

pub returns : goal.returns
returns c =
    let e : c.loop-k.k ≡ 8 = omega arith in
    c.loop-k.invariant.1
    ∙ rw (e, c.put_four.ensures, c.put_header.ensures) (whole c.args.buf.now c.args.sheet c.args.values (omega arith) (omega arith) c.requires)
