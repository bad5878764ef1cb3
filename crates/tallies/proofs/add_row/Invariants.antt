-- `tallies::add_row` meets its contract. The loop's invariant: destination z is added to the stations of the first e entries
-- (Entering).
-- Assumes nothing.
use Rattle.tallies.specs.Progress.{rows_of}
use Rattle.tallies.proofs.LoopLaws.{Entering}
use Rattle.tallies.proofs.add_row.Given as goal

abbrev pub invariant-loop-e : goal.invariant-loop-e
invariant-loop-e l = Entering l.n l.base l.source l.low (rows_of l.stations l.block l.split) l.z l.initial.work l.e l.work
