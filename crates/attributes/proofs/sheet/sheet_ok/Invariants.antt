-- What was found so far and the numbers from `i` on tell as much as all of them.
use Rattle.std.proofs.Common.{◌≡◌, drop}
use mathlib.Core.Bool.{◌&&◌}
use Rattle.meaning.specs.Trace.{identifiers_ok, sheet_ok}
use Rattle.attributes.proofs.sheet.sheet_ok.Given as goal

abbrev pub invariant-loop-i : goal.invariant-loop-i
invariant-loop-i l = sheet_ok l.sheet ≡ (l.sound && identifiers_ok (drop l.i l.sheet))
