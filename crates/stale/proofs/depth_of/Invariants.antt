-- `stale::depth_of` meets its contract. The loop's invariant: the sum is that of the h slots before u, and the depth has room for them and
-- for any h slots before.
-- Assumes nothing.
use Rattle.stale.proofs.DepthLaws.{Sliding}
use Rattle.stale.proofs.depth_of.Given as goal

abbrev pub invariant-loop-u : goal.invariant-loop-u
invariant-loop-u l = Sliding l.plan l.n l.h l.u l.enter l.leave l.load l.depth
