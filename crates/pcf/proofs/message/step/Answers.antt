-- The part lies in the message, and a structure that was met lies in the part.
use Rattle.std.proofs.Common.{sym, arith}
use lib.Seq.{length-take-le}
use Rattle.meaning.proofs.Structures.{row_at_lem}
use Rattle.pcf.proofs.Openings.{reaches}
use Rattle.pcf.proofs.message.step.Goals as goal

pub slice_bounds-structure_at-end : goal.slice_bounds-structure_at-end
slice_bounds-structure_at-end c = sym (length-take-le _ c.args.msg.now (reaches _ c.args.msg.now _ _ c.in_ok-part.ensures).there)

pub overflow_add-result : goal.overflow_add-result
overflow_add-result c =
    let r = reaches _ c.args.msg.now _ _ c.in_ok-part.ensures in
    omega (arith, (row_at_lem _ _ _ _ (sym c.in_ok-row.ensures)).at_fits, length-take-le _ c.args.msg.now r.there, r.most)
