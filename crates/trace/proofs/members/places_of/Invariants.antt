-- The invariant: the first k marks are places, and these are the places.
use Rattle.std.proofs.Common.{◌≡◌, true, take, length, get_or}
use Rattle.std.specs.List.{list_all}
use Rattle.meaning.proofs.Lists.{Filled}
use Rattle.trace.specs.Marks.{is_at, place_in}
use Rattle.trace.specs.declared.members.Mark.TheVariants.{Absent}
use Rattle.trace.proofs.members.places_of.Given as goal

abbrev pub invariant-loop-k : goal.invariant-loop-k
invariant-loop-k l =
    (length l.places ≡ 8)
    × (list_all is_at (take l.k l.marks) ≡ true)
    × Filled (λ j. place_in (get_or l.marks j Absent)) l.places l.k
