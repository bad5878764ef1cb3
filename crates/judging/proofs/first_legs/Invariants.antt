-- `judging::first_legs` meets its contract. The loop's invariant: each leg from the given one up to k is the first that leads home.
-- Assumes nothing.
use Rattle.ways.specs.Found.{begins}
use Rattle.judging.proofs.LegLaws.{FirstsTo}
use Rattle.judging.proofs.first_legs.Given as goal

abbrev pub invariant-loop-k : goal.invariant-loop-k
invariant-loop-k l = FirstsTo (begins l.plan l.q) l.from l.way l.k
