-- `pair::block_throughs` meets its contract: a pass, and the block's through counts from its rows.
-- Assumes nothing.
use Rattle.pair.proofs.BlockLaws.{block_pass, settled_few, block_over, block_store, block_done}
use Rattle.pair.proofs.block_throughs.Goals as goal

pub pass_until-requires : goal.pass_until-requires
pass_until-requires c =
    (block_pass _ _ _ _ _ _ _ _ _ _ _ _ c.requires, settled_few _ _ _ _ _ _ _ _ _ _ _ _ c.requires _ c.settled_before-known.ensures)

pub returns-in_default : goal.returns-in_default
returns-in_default c = block_over _ _ _ _ _ _ _ _ _ _ _ _ c.requires _ _ c.in_default.ensures

pub store-requires : goal.store-requires
store-requires c = block_store _ _ _ _ _ _ _ _ _ _ _ _ c.requires _ _ c.in-Ok.ensures

pub returns : goal.returns
returns c = block_done _ _ _ _ _ _ _ _ _ _ _ _ c.requires _ _ c.in-Ok.ensures _ c.store.ensures
