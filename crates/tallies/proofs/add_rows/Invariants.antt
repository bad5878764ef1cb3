-- `tallies::add_rows` meets its contract. The loop's invariant: the destinations below z are added to the block (Sweeping).
-- Assumes nothing.
use Rattle.tallies.specs.Progress.{rows_of}
use Rattle.tallies.proofs.LoopLaws.{Sweeping}
use Rattle.tallies.proofs.add_rows.Given as goal

abbrev pub invariant-loop-z : goal.invariant-loop-z
invariant-loop-z l =
    Sweeping l.n l.base l.source l.low (rows_of l.stations l.block l.split) l.initial.work l.z l.work
