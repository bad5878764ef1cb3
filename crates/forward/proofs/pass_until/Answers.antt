-- `forward::pass_until` meets its contract: the pass with a column for each station of the block.
-- Assumes nothing.
use native.Mathlib.Omega.{arith}
use Rattle.pass.specs.Column.{column_of, split_of}
use Rattle.forward.proofs.UseLaws.{until_whole, whole_spared, columns_whole}
use Rattle.forward.proofs.pass_until.Goals as goal

pub pass_slots-requires : goal.pass_slots-requires
unfolding split_of
pass_slots-requires c =
    (until_whole _ _ _ _ _ _ _ _ _ c.requires.0, omega arith, whole_spared _ _ _ _ _ _ c.requires.1)

pub returns : goal.returns
unfolding column_of split_of
returns c = columns_whole _ _ _ _ _ _ _ _ _ _ _ _ c.pass_slots.ensures
