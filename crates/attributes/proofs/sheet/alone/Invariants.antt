-- What was seen so far and what is behind `k` tell as much as what is behind `i`.
use Rattle.std.proofs.Common.{◌≡◌, ◌+◌, drop}
use mathlib.Core.Bool.{◌&&◌}
use Rattle.meaning.specs.Trace.{absent}
use Rattle.attributes.proofs.sheet.alone.Given as goal

abbrev pub invariant-loop-k : goal.invariant-loop-k
invariant-loop-k l = absent l.x (drop (l.i + 1) l.sheet) ≡ (l.lone && absent l.x (drop l.k l.sheet))
