-- The invariant: the marks so far, with the direct members from here on, come to the marks after all of them, and the members
-- from here on are sound.
use Rattle.std.proofs.Common.{◌≡◌, ℕ, ◌<◌, ◌-◌, true, length, get_or}
use Rattle.meaning.specs.Walk.{walk}
use Rattle.meaning.specs.Bytes.{whole}
use Rattle.trace.specs.Passing.{is_sound}
use Rattle.trace.specs.Marks.{mark_from}
use Rattle.trace.specs.declared.members.Mark.TheVariants.{Absent}
use Rattle.trace.proofs.members.marks_of.Given as goal

abbrev pub invariant-loop : goal.invariant-loop
invariant-loop l =
    (length l.marks ≡ 8)
    × ((j : ℕ) → j < 8 → mark_from (get_or l.sheet j 0) Absent (walk (whole l.s) l.place 2 l.count) ≡ mark_from (get_or l.sheet j 0) (get_or l.marks j Absent) (walk (whole l.s) l.at 2 (l.count - l.counter)))
    × (is_sound (walk (whole l.s) l.at 2 (l.count - l.counter)) ≡ true)
