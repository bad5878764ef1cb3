-- `pair::through_blocks` meets its contract. The loop's invariant: the stations below low are stored. The measure is the number
-- of stations left, which falls since no block is empty.
-- Assumes nothing.
use native.Mathlib.Omega.{arith}
use mathlib.Core.Path.{◌∙◌}
use Rattle.walks.proofs.Accepted.{accepted}
use Rattle.pair.proofs.BlockLaws.{blocks_refused, blocks_more, block_progress, blocks_end}
use Rattle.pair.proofs.BlockLaws.{blocks_none, block_within, next_ready}
use Rattle.pair.proofs.through_blocks.Goals as goal

pub loop-low-init : goal.loop-low-init
loop-low-init c = blocks_none _ _ _ _ _ _ _ _ _ _ _ _ c.requires

pub block_throughs-requires : goal.block_throughs-requires
block_throughs-requires c = next_ready _ _ _ _ _ _ _ _ _ _ _ _ _ _ _ c.loop-low.invariant c.loop-low-test.true _ c.min-block.ensures

pub shape_of-through-in_err-slot : goal.shape_of-through-in_err-slot
shape_of-through-in_err-slot c = c.block_throughs.ensures.table_length ∙ c.loop-low.invariant.table_length

pub shape_of-work-in_err-slot : goal.shape_of-work-in_err-slot
shape_of-work-in_err-slot c = c.block_throughs.ensures.area_length ∙ c.loop-low.invariant.area_length

pub returns-in_err-slot : goal.returns-in_err-slot
returns-in_err-slot c =
    rw c.from_residual.ensures
    (blocks_refused _ _ _ _ _ _ _ _ _ _ _ _ _ _ _ c.loop-low.invariant c.loop-low-test.true _ c.min-block.ensures _ _ c.in_err-slot.ensures)

pub overflow_add-low : goal.overflow_add-low
overflow_add-low c = let inside = block_within _ _ _ _ _ _ _ _ _ _ _ _ _ _ _ c.loop-low.invariant c.loop-low-test.true _ c.min-block.ensures in omega (arith, (accepted _ _ _ c.requires.asked.ready.accepted).stations)

pub loop-low-smaller : goal.loop-low-smaller
loop-low-smaller c = block_progress _ _ _ _ _ _ _ _ _ _ _ _ _ _ _ c.loop-low.invariant c.loop-low-test.true _ c.min-block.ensures _ _ _ c.in_ok-slot.ensures

pub loop-low-preserved : goal.loop-low-preserved
loop-low-preserved c = blocks_more _ _ _ _ _ _ _ _ _ _ _ _ _ _ _ c.loop-low.invariant c.loop-low-test.true _ c.min-block.ensures _ _ _ c.in_ok-slot.ensures

pub shape_of-through : goal.shape_of-through
shape_of-through c = c.loop-low.invariant.table_length

pub shape_of-work : goal.shape_of-work
shape_of-work c = c.loop-low.invariant.area_length

pub returns : goal.returns
returns c = blocks_end _ _ _ _ _ _ _ _ _ _ _ _ _ _ _ (omega arith) c.loop-low.invariant
