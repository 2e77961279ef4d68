-- The two call each other, with the depth rising, which is at most 9. The loop's invariant: whatever writes the lines that are
-- left has written them all.
use Rattle.std.proofs.Common.{◌+◌, ◌-◌, ◌*◌}
use Rattle.meaning.specs.Bytes.{whole}
use Rattle.meaning.specs.Walk.{walk}
use Rattle.listing.proofs.Turns.{Rest}
use Rattle.listing.proofs.rows.+put_all_put_one.Given as goal

abbrev pub decreases-put_all : goal.decreases-put_all
decreases-put_all l = 2 * (10 - l.depth) + 1

abbrev pub decreases-put_one : goal.decreases-put_one
decreases-put_one l = 2 * (10 - l.depth)

abbrev pub invariant-put_all-loop : goal.invariant-put_all-loop
invariant-put_all-loop l =
    Rest (walk (whole l.s) l.place l.depth l.count) l.fn.out l.at l.s l.depth l.out l.behind.text l.behind.place l.counter
