use Rattle.std.proofs.Common.{arith}
use Rattle.trace.proofs.Marking.{all_places_at}
use Rattle.trace.proofs.members.places_of.Goals as goal

-- all eight are places
pub returns : goal.returns
returns c =
    let l = c.loop-k in
    all_places_at c.args.marks l.places l.k (omega arith) (omega arith) l.invariant.0 l.invariant.1 (λ j h. l.invariant.2 j (omega arith))
