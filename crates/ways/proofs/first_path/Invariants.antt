-- `ways::first_path` meets its contract. The loop's invariant: the first k entries are the least that begin a shortest walk.
-- Assumes nothing.
use Rattle.ways.proofs.ListingLaws.{Beginning}
use Rattle.ways.proofs.first_path.Given as goal

abbrev pub invariant-loop-k : goal.invariant-loop-k
invariant-loop-k l = Beginning l.plan l.q l.initial.way l.k l.way
