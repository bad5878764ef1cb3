-- `pair::throughs` meets its contract: how many appearances are kept, how many columns fit, then the blocks.
-- Assumes nothing.
use Rattle.pair.proofs.BlockLaws.{depth_ready, columns_lent, blocks_ready, throughs_entry}
use Rattle.pair.proofs.throughs.Goals as goal

pub depth-depth-requires : goal.depth-depth-requires
depth-depth-requires c = depth_ready _ _ _ _ _ _ _ _ _ _ c.requires

pub most_columns-most-requires : goal.most_columns-most-requires
most_columns-most-requires c = columns_lent _ _ _ _ _ _ _ _ _ _ c.requires _ _ c.depth-depth.ensures

pub through_blocks-requires : goal.through_blocks-requires
through_blocks-requires c = blocks_ready _ _ _ _ _ _ _ _ _ _ c.requires _ _ c.depth-depth.ensures _ c.most_columns-most.ensures

pub returns : goal.returns
returns c = throughs_entry _ _ _ _ _ _ _ _ _ _ c.requires _ _ c.depth-depth.ensures _ _ _ c.through_blocks.ensures
