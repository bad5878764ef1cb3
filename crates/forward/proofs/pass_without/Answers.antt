-- `forward::pass_without` meets its contract: the pass for a block that waits for no station.
-- Assumes nothing.
use native.Mathlib.Omega.{arith}
use mathlib.Core.Path.{refl}
use Rattle.lists.proofs.ListLaws.{not_both}
use Rattle.pass.specs.Column.{column_of, split_of}
use Rattle.forward.proofs.UseLaws.{block_passed, block_ready, columns_one}
use Rattle.forward.proofs.pass_without.Goals as goal

pub pass_slots-requires : goal.pass_slots-requires
unfolding split_of
pass_slots-requires c =
    (block_ready _ _ _ _ _ _ _ _ _ c.requires, omega arith, λ e. absurd (not_both e refl))

pub returns : goal.returns
unfolding column_of split_of
returns c =
    block_passed _ _ _ _ _ _ _ _ _ _ _ _ c.requires
    (columns_one _ _ _ _ _ _ _ _ _ _ _ _ c.pass_slots.ensures) c.is_err.ensures.value
