-- The invariant: the lines of the Activity groups before the k-th structure are written, and those before it and from it on are
-- the structures of the trace.
use Rattle.std.proofs.Common.{◌≡◌, ◌≤◌}
use Rattle.meaning.specs.Message.{parameter_count}
use Rattle.attributes.specs.Terms.{terms_of}
use Rattle.hops.proofs.Turns.{trace_in}
use Rattle.hops.proofs.Loops.{Written}
use Rattle.hops.proofs.groups.put_groups.Given as goal

abbrev pub invariant-loop-k : goal.invariant-loop-k
invariant-loop-k l =
    (l.count ≡ parameter_count (trace_in (terms_of l.terms) l.msg)) × (l.k ≤ l.count)
    × (Written (terms_of l.terms) l.msg l.id l.fn.out l.out l.groups l.k)
