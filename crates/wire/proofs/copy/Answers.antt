use Rattle.std.proofs.Common.{◌≡◌, ◌∙◌, length, arith}
use Rattle.meaning.proofs.Splices.{splice_copy}
use Rattle.wire.proofs.copy.Goals as goal

pub returns : goal.returns
returns c =
    let e : c.loop-i.i ≡ length c.args.from.now = omega arith in
    c.loop-i.invariant.1 ∙ rw e (splice_copy _ 0 _)
