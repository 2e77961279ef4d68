-- The invariant: no mark has changed, and none of the first k identifiers is the member's.
use Rattle.std.proofs.Common.{◌≡◌, ℕ, ◌<◌, get_or}
use Rattle.trace.proofs.members.mark_all.Given as goal

abbrev pub invariant-loop-k : goal.invariant-loop-k
invariant-loop-k l = (l.marks ≡ l.fn.marks) × ((j : ℕ) → j < l.k → l.parameter ≡ get_or l.sheet j 0 → ⊥)
