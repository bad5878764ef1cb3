-- `tallies::tally` meets its contract: how many appearances are kept, the block and the base that are named, then the sources.
-- Assumes nothing.
use native.Mathlib.Omega.{arith}
use Rattle.walks.proofs.Accepted.{accepted}
use Rattle.tallies.proofs.SourceLaws.{depth_ready, columns_lent, all_ready, tallied_entry}
use Rattle.tallies.proofs.tally.Goals as goal

pub depth-depth-requires : goal.depth-depth-requires
depth-depth-requires c = depth_ready _ _ _ _ _ _ _ c.requires

pub overflow_add-t : goal.overflow_add-t
overflow_add-t c = let a = accepted _ _ _ c.requires.accepted in omega (arith, a.slots)

pub overflow_mul-t : goal.overflow_mul-t
overflow_mul-t c = let a = accepted _ _ _ c.requires.accepted in omega (arith, a.slots)

pub most_columns-block-requires : goal.most_columns-block-requires
most_columns-block-requires c = columns_lent _ _ _ _ _ _ _ c.requires _ _ c.depth-depth.ensures

pub base_of-base-requires : goal.base_of-base-requires
base_of-base-requires c = let a = accepted _ _ _ c.requires.accepted in (a.stations, a.slots)

pub tally_sources-requires : goal.tally_sources-requires
tally_sources-requires c = all_ready _ _ _ _ _ _ _ c.requires _ _ c.depth-depth.ensures _ _ c.most_columns-block.ensures c.base_of-base.ensures

pub returns : goal.returns
returns c = tallied_entry _ _ _ _ _ _ _ c.requires _ _ c.depth-depth.ensures _ _ c.tally_sources.ensures
