use Rattle.std.proofs.Common.{◌≡◌, ◌∙◌, List, ap, subst, refl, arith, length, set, get_or}
use borrow.Author.Tests.{ne_eqb}
use Rattle.trace.specs.Marks.{noted, Noted}
use Rattle.trace.specs.declared.members.Mark.{Mark}
use Rattle.trace.specs.declared.members.Mark.TheVariants.{Absent}
use Rattle.trace.proofs.Marking.{marked_alone}
use Rattle.trace.proofs.members.mark_all.Goals as goal

-- the identifier that is the member's
pub returns-then-parameter-sheet : goal.returns-then-parameter-sheet
returns-then-parameter-sheet c =
    let a = c.args in
    let l = c.loop-k in
    let e : l.marks ≡ a.marks.now = l.invariant.0 in
    subst (λ (x : List Mark). Noted a.sheet.now x a.kind a.parameter a.place (set l.marks l.k c.mark_one.result)) e
    (rw c.mark_one.ensures (marked_alone a.sheet.now l.marks a.kind a.parameter a.place l.k c.requires (ap length e ∙ c.told-marks) (omega arith) c.if-parameter-sheet.true))

-- none is, and all marks stay
pub returns : goal.returns
unfolding noted
returns c =
    let l = c.loop-k in
    record {
      eight = ap length l.invariant.0 ∙ c.told-marks;
      each = λ j h. ap (λ (x : List Mark). get_or x j Absent) l.invariant.0 ∙ rw (ne_eqb _ _ (l.invariant.1 j (omega arith))) refl;
    }
