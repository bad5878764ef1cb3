-- `widths::start_sources` meets its contract. The loop's invariant: writing the walks of the sources from column c on gives what writing all
-- gives.
-- Assumes nothing.
use Rattle.widths.proofs.BeginKeys.{Starting}
use Rattle.widths.proofs.start_sources.Given as goal

abbrev pub invariant-loop-c : goal.invariant-loop-c
invariant-loop-c l = Starting l.many l.first l.initial.work l.c l.work
