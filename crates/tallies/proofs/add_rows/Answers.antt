-- `tallies::add_rows` meets its contract. The loop's invariant: the destinations below z are added to the block (Sweeping).
-- Assumes nothing.
use native.Mathlib.Omega.{arith}
use Rattle.tallies.proofs.LoopLaws.{sweeping_none, sweeping_workable, sweeping_more, sweeping_length}
use Rattle.tallies.proofs.LoopLaws.{sweeping_all}
use Rattle.tallies.proofs.add_rows.Goals as goal

pub loop-z-init : goal.loop-z-init
loop-z-init c = sweeping_none _ _ _ _ _ _

pub add_row-requires : goal.add_row-requires
add_row-requires c = (sweeping_workable _ _ _ _ _ _ _ _ c.loop-z.invariant c.requires, omega arith)

pub loop-z-preserved : goal.loop-z-preserved
loop-z-preserved c = sweeping_more _ _ _ _ _ _ _ _ c.loop-z.invariant (omega arith) _ c.add_row.ensures

pub shape_of-work : goal.shape_of-work
shape_of-work c = sweeping_length _ _ _ _ _ _ _ _ c.loop-z.invariant c.requires

pub returns : goal.returns
returns c = sweeping_all _ _ _ _ _ _ _ _ c.loop-z.invariant (omega arith)
