-- `judging::last_legs` meets its contract. The loop's invariant: each leg from the given one up to k is the last that leads home.
-- Assumes nothing.
use Rattle.ways.specs.Found.{begins}
use Rattle.judging.proofs.LegLaws.{LastsTo}
use Rattle.judging.proofs.last_legs.Given as goal

abbrev pub invariant-loop-k : goal.invariant-loop-k
invariant-loop-k l = LastsTo (begins l.plan l.q) l.from l.way l.k
