-- `ways::lower_run` meets its contract. The loop's invariant: the first i entries are lowered.
-- Assumes nothing.
use native.Mathlib.Omega.{arith}
use Rattle.ways.proofs.WindowLaws.{lowering_none, lowering_more, lowering_all}
use Rattle.ways.proofs.lower_run.Goals as goal

pub loop-i-init : goal.loop-i-init
loop-i-init c = lowering_none _ _ _ _

pub lower-requires : goal.lower-requires
lower-requires c = (omega (arith, c.loop-i.invariant.same), omega (arith, c.loop-i.invariant.same))

pub loop-i-preserved : goal.loop-i-preserved
loop-i-preserved c = lowering_more _ _ _ _ _ _ _ c.loop-i-test.true c.loop-i.invariant c.lower.ensures

pub shape_of-work : goal.shape_of-work
shape_of-work c = c.loop-i.invariant.same

pub returns : goal.returns
returns c = lowering_all _ _ _ _ _ _ c.loop-i-test.false c.loop-i.invariant
