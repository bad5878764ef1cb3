-- `stale::gather` meets its contract. The loop's invariant: what is left to gather from a head on gives what gathering all gives.
-- The measure is that head.
-- Assumes nothing.
use Rattle.stale.proofs.WindowSteps.{GatheringCell}
use Rattle.stale.proofs.gather.Given as goal

abbrev pub invariant-loop-at : goal.invariant-loop-at
invariant-loop-at l =
    GatheringCell l.n l.block l.depth l.base l.v l.oldest l.first l.end l.head l.initial.work l.at l.work

abbrev pub decreases-loop-at : goal.decreases-loop-at
decreases-loop-at l = l.at
