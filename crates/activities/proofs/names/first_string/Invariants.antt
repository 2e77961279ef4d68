-- The invariant: the first string from here on is the first of all, and the members from here on are sound.
use Rattle.std.proofs.Common.{◌≡◌, ◌-◌, true}
use Rattle.meaning.specs.Bytes.{whole}
use Rattle.meaning.specs.Walk.{walk}
use Rattle.trace.specs.Passing.{is_sound}
use Rattle.activities.specs.Naming.{string_in}
use Rattle.activities.proofs.names.first_string.Given as goal

abbrev pub invariant-loop : goal.invariant-loop
invariant-loop l =
    (string_in (whole l.s) l.id (walk (whole l.s) l.place 2 l.count) ≡ string_in (whole l.s) l.id (walk (whole l.s) l.at 2 (l.count - l.counter)))
    × (is_sound (walk (whole l.s) l.at 2 (l.count - l.counter)) ≡ true)
