-- `widths::start_sources` meets its contract. The loop's invariant: writing the walks of the sources from column c on gives what writing all
-- gives.
-- Assumes nothing.
use Rattle.std.proofs.Common.{arith}
use Rattle.widths.proofs.BeginKeys.{starting_more, starting_all}
use Rattle.widths.proofs.start_sources.Goals as goal

pub loop-c-preserved : goal.loop-c-preserved
loop-c-preserved c = starting_more _ _ _ _ _ c.loop-c-test.true c.loop-c.invariant

pub returns : goal.returns
returns c = starting_all _ _ _ _ _ (omega arith) c.loop-c.invariant
