-- The invariant: what is left, trimmed, is all of them, trimmed.
use Rattle.std.proofs.Common.{◌≡◌, length}
use Rattle.meaning.specs.Activity.{trimmed}
use Rattle.activities.proofs.names.kept.Given as goal

abbrev pub invariant-loop-left : goal.invariant-loop-left
invariant-loop-left l = trimmed l.s ≡ trimmed l.left

abbrev pub decreases-loop-left : goal.decreases-loop-left
decreases-loop-left l = length l.left
