-- The rows behind the counts, where the walk was not refused, and what the meaning makes of their end.
use Rattle.std.proofs.Common.{refl, arith}
use Rattle.std.proofs.lemmas.Result.{err_from_is_err_and}
use lib.Seq.{length-take-le}
use Rattle.walk.proofs.Counting.{zeros_low}
use Rattle.pcf.proofs.Closes.{counted_rows, tally_fault, tally_end, tally_long}
use Rattle.pcf.proofs.message.structures.Goals as goal

pub siblings-requires : goal.siblings-requires
siblings-requires c = record { most = omega (arith, c.requires.most, length-take-le _ c.args.msg.now c.requires.there); low = zeros_low 27 _ }

pub returns-in_err-walked : goal.returns-in_err-walked
returns-in_err-walked c =
    let p = err_from_is_err_and c.from_residual.result c.from_residual.ensures.1 in
    rw (p.1, p.2) (tally_fault c.args.msg.now c.args.opening.part _ c.requires.there _ c.in_err-walked.ensures)

pub returns-then-walked-part : goal.returns-then-walked-part
returns-then-walked-part c =
    tally_long c.args.msg.now c.args.opening.part _ c.requires.there _ _ (counted_rows _ _ _ _ _ _ c.in_ok-walked.ensures) c.if-walked-part.true _ refl

pub total-requires : goal.total-requires
total-requires c =
    let w = (counted_rows _ _ _ _ _ _ c.in_ok-walked.ensures).past in omega (arith, w.number, w.room, c.if-walked-part.false, c.requires.most)

pub returns : goal.returns
returns c =
    tally_end c.args.msg.now c.args.opening.part _ c.requires.there _ _ (counted_rows _ _ _ _ _ _ c.in_ok-walked.ensures) c.if-walked-part.false _ c.total.ensures
