-- The invariant: the first i bytes of the name are written.
use Rattle.std.proofs.Common.{◌≡◌, ◌+◌, ◌≤◌, length, take}
use Rattle.text.specs.Wrote.{Wrote}
use Rattle.hops.specs.Hops.{shown}
use Rattle.hops.proofs.name.put_name.Given as goal

abbrev pub invariant-loop-i : goal.invariant-loop-i
invariant-loop-i l = (length l.out ≡ length l.fn.out) × (l.i ≤ length l.name) × (Wrote l.fn.out l.at (shown (take l.i l.name)) l.out (l.at + l.i))
