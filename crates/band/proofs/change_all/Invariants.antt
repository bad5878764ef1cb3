-- `band::change_all` meets its contract. The loop's invariant: the entries before j are written.
-- Assumes nothing.
use Rattle.band.proofs.TakingLaws.{Changing}
use Rattle.band.proofs.change_all.Given as goal

abbrev pub invariant-loop-j : goal.invariant-loop-j
invariant-loop-j l = Changing l.taking l.plan l.initial.entry-items l.at l.j l.entry-items
