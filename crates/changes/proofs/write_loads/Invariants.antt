-- `changes::write_loads` meets its contract. The loop's invariant: the entries before v are loads, the others untouched.
-- Assumes nothing.
use Rattle.changes.specs.Changes.{load_at}
use Rattle.changes.proofs.WritingLaws.{Writing}
use Rattle.changes.proofs.write_loads.Given as goal

abbrev pub invariant-loop-v : goal.invariant-loop-v
invariant-loop-v l = Writing (load_at l.loads l.at) l.n l.initial.changes l.v l.changes
