-- `judging::ways_follow` meets its contract. The loop's invariant: the entries before the place are the first ways.
-- Assumes nothing.
use Rattle.ways.specs.Found.{list_in}
use Rattle.judging.proofs.JudgeLaws.{Through}
use Rattle.judging.proofs.ways_follow.Given as goal

abbrev pub invariant-loop-at : goal.invariant-loop-at
invariant-loop-at l = Through (list_in l.plan l.q) l.q.hops l.list l.at
