use Rattle.walk.specs.Tallies.{raised}
use Rattle.walk.proofs.Counting.{raised-added}
use Rattle.walk.proofs.counter.ArrayU3227Counter.count.Goals as goal

pub returns : goal.returns
unfolding raised
returns c r e = rw (← e) (raised-added c.args.self.now r)
