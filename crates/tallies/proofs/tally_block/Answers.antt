-- `tallies::tally_block` meets its contract: what the pass says of the counts, and the block done where it goes on.
-- Assumes nothing.
use Rattle.std.proofs.lemmas.Result.{err_from_is_err_and}
use Rattle.tallies.proofs.BlockLaws.{block_ready, block_stopped, block_workable, block_done}
use Rattle.tallies.proofs.tally_block.Goals as goal

pub pass_packed-requires : goal.pass_packed-requires
pass_packed-requires c = (block_ready _ _ _ _ _ _ _ _ _ _ c.requires.0, c.requires.1)

pub returns-in_err-pass_packed : goal.returns-in_err-pass_packed
returns-in_err-pass_packed c =
    let p = err_from_is_err_and c.from_residual.result c.from_residual.ensures.1 in
    rw (p.1, p.2) (block_stopped _ _ _ _ _ _ _ _ _ _ c.requires.0 _ _ c.pass_packed.ensures _ c.in_err-pass_packed.was)

pub add_rows-requires : goal.add_rows-requires
add_rows-requires c =
    block_workable _ _ _ _ _ _ _ _ _ _ c.requires.0 _ _ c.pass_packed.ensures _ c.in_ok-pass_packed.was

pub returns : goal.returns
returns c =
    block_done _ _ _ _ _ _ _ _ _ _ c.requires.0 _ _ c.pass_packed.ensures _ c.in_ok-pass_packed.was _ c.add_rows.ensures
