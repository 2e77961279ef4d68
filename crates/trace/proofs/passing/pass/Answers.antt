-- The structure, and the walk over what is inside it.
use Rattle.structure.proofs.Extents.{reaches, reaches_none, reach_row}
use Rattle.walk.proofs.Answers.{given_on}
use Rattle.walk.proofs.Numbering.{past, past_fault}
use Rattle.trace.proofs.Turns.{pass_refused, pass_halt, pass_over, pass_plain}
use Rattle.trace.proofs.passing.pass.Goals as goal

pub returns-in-Err : goal.returns-in-Err
returns-in-Err c = pass_refused _ _ _ _ _ (reaches_none c.in-Err.ensures)

-- the structure is sound, and lies in the bytes, with 16 or more
pub returns-then-members-eq0 : goal.returns-then-members-eq0
returns-then-members-eq0 c =
    pass_plain _ _ _ _ (reach_row _ _ _ _ _ (reaches c.in-Ok.ensures) _ _ c.number_at.ensures c.number_at-in-Ok.ensures) c.if-members-eq0.true

pub returns-in_err-inner-in-Ok : goal.returns-in_err-inner-in-Ok
returns-in_err-inner-in-Ok c =
    rw (given_on _ _ c.from_residual.ensures.1)
    (pass_halt _ _ _ _ (reach_row _ _ _ _ _ (reaches c.in-Ok.ensures) _ _ c.number_at.ensures c.number_at-in-Ok.ensures) _ _ (past_fault _ _ _ _ _ _ c.in_err-inner-in-Ok.ensures))

pub returns-in_ok-inner-in-Ok : goal.returns-in_ok-inner-in-Ok
returns-in_ok-inner-in-Ok c =
    let w = past _ _ _ _ _ _ c.in_ok-inner-in-Ok.ensures in
    pass_over _ _ _ _ (reach_row _ _ _ _ _ (reaches c.in-Ok.ensures) _ _ c.number_at.ensures c.number_at-in-Ok.ensures) w.rows _ w.over
