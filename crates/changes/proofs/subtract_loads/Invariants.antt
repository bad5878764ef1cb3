-- `changes::subtract_loads` meets its contract. The loop's invariant: the entries before v are differences, the others untouched.
-- Assumes nothing.
use Rattle.changes.specs.Changes.{difference_at}
use Rattle.changes.proofs.WritingLaws.{Writing}
use Rattle.changes.proofs.subtract_loads.Given as goal

abbrev pub invariant-loop-v : goal.invariant-loop-v
invariant-loop-v l = Writing (difference_at l.loads l.at l.initial.changes) l.n l.initial.changes l.v l.changes
