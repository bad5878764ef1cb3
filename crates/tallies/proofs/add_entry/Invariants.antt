-- `tallies::add_entry` meets its contract. The loop's invariant: the stations of the entry before j are added (Running).
-- Assumes nothing.
use Rattle.tallies.specs.Progress.{rows_of}
use Rattle.tallies.proofs.LoopLaws.{Running}
use Rattle.tallies.proofs.add_entry.Given as goal

abbrev pub invariant-loop-j : goal.invariant-loop-j
invariant-loop-j l =
    Running l.n l.base l.source l.low (rows_of l.stations l.block l.split) l.z l.e l.initial.work l.end l.j l.work
