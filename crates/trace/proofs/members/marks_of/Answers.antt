-- A member is the first of those that are left; it is noted, and the others are those behind it.
use Rattle.std.proofs.Common.{◌≡◌, ◌-◌, refl, sym, ◌∙◌, arith, get_or}
use Rattle.meaning.specs.Bytes.{whole}
use Rattle.trace.specs.declared.members.Mark.TheVariants.{Absent}
use Rattle.trace.proofs.Turns.{one_left}
use Rattle.trace.proofs.Skipping.{behind_over, sound_next}
use Rattle.trace.proofs.Marking.{mark_end, mark_read}
use Rattle.trace.proofs.members.marks_of.Goals as goal

pub loop-preserved : goal.loop-preserved
loop-preserved c =
    let a = c.args in
    let l = c.loop in
    let d = one_left a.count l.counter c.loop-test.true in
    let o = behind_over _ _ _ _ c.behind-at.ensures in (
      c.mark_all.ensures.eight,
      λ j h. l.invariant.1 j h
          ∙ mark_read a.s.now l.at _ _ _ _ _ d c.behind-at.ensures c.number_at.ensures c.number_at-in-loop.ensures (get_or a.sheet j 0) (get_or l.marks j Absent)
          ∙ rw (← c.mark_all.ensures.each j h) refl,
      sound_next _ _ _ _ _ d l.invariant.2 _ _ o.1,
    )

pub returns : goal.returns
returns c =
    let a = c.args in
    let l = c.loop in
    let z : a.count - l.counter ≡ 0 = omega (arith, c.loop-test.false) in
    record { eight = l.invariant.0; each = λ j h. sym (l.invariant.1 j h ∙ mark_end (whole a.s.now) l.at _ (get_or a.sheet j 0) (get_or l.marks j Absent) z) }
