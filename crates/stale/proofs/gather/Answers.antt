-- `stale::gather` meets its contract. The loop's invariant: what is left to gather from a head on gives what gathering all gives.
-- The measure is that head.
-- Assumes nothing.
use Rattle.std.proofs.Common.{arith}
use Rattle.stale.proofs.WindowSteps.{gathering_more, gathering_all}
use Rattle.stale.proofs.gather.Goals as goal

pub loop-at-preserved : goal.loop-at-preserved
loop-at-preserved c =
    gathering_more _ _ _ _ _ _ _ _ _ _ _ _ _ _ (omega arith) c.loop-at.invariant c.follow-at.auto.work c.follow-at.ensures

pub returns : goal.returns
returns c = gathering_all _ _ _ _ _ _ _ _ _ _ _ _ (omega arith) c.loop-at.invariant
