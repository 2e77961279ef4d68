-- Where a structure was found, `Reaches` says how far it reaches and what type it has.
use Rattle.std.proofs.Common.{◌∙◌, sym, arith}
use Rattle.structure.proofs.Extents.{reaches, reaches_none, reach_fits, reach_least, reach_shallow, reach_kind, reach_type}
use Rattle.walk.proofs.Answers.{given_on}
use Rattle.walk.proofs.Turns.{left, none_left}
use Rattle.walk.proofs.Walks.{turn_none, turn_refused, turn_on, turn_halt, turn_plain, room_one, room_next, room_behind}
use Rattle.walk.proofs.walking.+walk.Goals as goal
use Rattle.walk.proofs.walking.+walk.Goals.{then-members-ne0+in_ok-inner-in-Ok, else-members-ne0}

-- a structure is refused
pub returns-in-Err : goal.returns-in-Err
returns-in-Err g t c =
    sym (c.loop.invariant.0 ∙ turn_refused g.C.Counter.laws _ _ _ _ _ _ (left c.loop-test.true) _ _ (reaches_none c.in-Err.ensures))

-- its Type is there to be read, and is below 27
pub number_at-requires : goal.number_at-requires
number_at-requires g t c =
    let r = reaches c.in-Ok.ensures in
    omega (arith, reach_fits r, reach_least r)

pub count-requires-clause-known : goal.count-requires-clause-known
count-requires-clause-known g t c =
    let r = reaches c.in-Ok.ensures in
    omega (arith, reach_type r, reach_kind _ _ _ _ _ r _ c.number_at.ensures)

-- the counter has room for it
pub count-requires-clause-room : goal.count-requires-clause-room
count-requires-clause-room g t c = room_one g.C.Counter.laws _ _ _ _ _ (reaches c.in-Ok.ensures) _ c.loop.invariant.1

-- the next place
pub overflow_add-behind : goal.overflow_add-behind
overflow_add-behind g t c = omega (arith, reach_fits (reaches c.in-Ok.ensures))

-- the members of a group
pub overflow_add-depth : goal.overflow_add-depth
overflow_add-depth g t c = omega (arith, reach_shallow (reaches c.in-Ok.ensures) c.if-members-ne0.true)

pub walk-requires : goal.walk-requires
walk-requires g t c κs within =
    let r = reaches c.in-Ok.ensures in
    let one = c.count.ensures r.row (sym (reach_kind _ _ _ _ _ r _ c.number_at.ensures)) in
    (omega (arith, c.decreases, reach_shallow r c.if-members-ne0.true), (within, room_next g.C.Counter.laws _ _ _ _ _ r _ c.loop.invariant.1 _ one))

-- the walk inside met a fault
pub returns-in_err-inner-in-Ok : goal.returns-in_err-inner-in-Ok
returns-in_err-inner-in-Ok g t c =
    let r = reaches c.in-Ok.ensures in
    let one = c.count.ensures r.row (sym (reach_kind _ _ _ _ _ r _ c.number_at.ensures)) in
    rw (given_on _ _ c.from_residual.ensures.1)
    (sym (c.loop.invariant.0 ∙ turn_halt g.C.Counter.laws _ _ _ _ _ _ (left c.loop-test.true) _ _ r _ one _ _ c.in_err-inner-in-Ok.ensures))

-- the next turn, after the members of a group, or after a structure with nothing inside
pub loop-preserved : goal.loop-preserved
loop-preserved g t c =
    let laws = g.C.Counter.laws in
    let r = reaches c.in-Ok.ensures in
    let one = c.count.ensures r.row (sym (reach_kind _ _ _ _ _ r _ c.number_at.ensures)) in
    let due = left c.loop-test.true in
    let on = c.loop.invariant.0 in
    let room = room_next laws _ _ _ _ _ r _ c.loop.invariant.1 _ one in
    elim c.if-members-ne0.branch [
      | then-members-ne0+in_ok-inner-in-Ok w ↦
          let e = w.in_ok-inner-in-Ok.ensures in (
            rw (w.behind-is, w.seen-is) (on ∙ turn_on laws _ _ _ _ _ _ due _ _ r _ one _ _ e),
            rw (w.behind-is, w.seen-is) (room_behind laws _ _ _ _ _ _ _ e (reach_fits r) room),
          )
      | else-members-ne0 w ↦ (
        rw (w.behind-is, w.seen-is) (on ∙ turn_plain laws _ _ _ _ _ _ due _ _ r _ one w.if-members-ne0.false),
        rw (w.behind-is, w.seen-is) room,
      )
    ]

-- none is left
pub returns : goal.returns
returns g t c = sym (c.loop.invariant.0 ∙ sym (turn_none g.C.Counter.laws _ _ _ _ _ (none_left c.loop-test.false)))
