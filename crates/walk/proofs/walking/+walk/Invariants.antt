-- The invariant: what the walk from here comes to, with the counter as it is, is what the whole walk comes to, and the counter has
-- room for what is left. It ends because no group is deeper than 8.
use Rattle.std.proofs.Common.{◌≡◌, ◌-◌, length}
use Rattle.meaning.specs.Bytes.{whole}
use Rattle.meaning.specs.Walk.{walk}
use Rattle.walk.specs.Counters.{counting}
use Rattle.walk.proofs.walking.+walk.Given as goal

-- the depths left for groups
abbrev pub decreases-walk : goal.decreases-walk
decreases-walk g l = 9 - l.depth

abbrev pub invariant-loop : goal.invariant-loop
invariant-loop g l =
    let counted = g.C.Counter.counted in
    (counting counted l.fn.seen (walk (whole l.s) l.place l.depth l.count) ≡ counting counted l.seen (walk (whole l.s) l.behind l.depth (l.count - l.counter)))
    × g.C.Counter.Room l.seen (length l.s - l.behind)
