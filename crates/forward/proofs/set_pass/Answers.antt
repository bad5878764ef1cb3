-- `forward::set_pass` meets its contract: the pass with one column for the members of the set.
-- Assumes nothing.
use native.Mathlib.Omega.{arith}
use mathlib.Core.Path.{refl}
use Rattle.lists.proofs.ListLaws.{not_both}
use Rattle.pass.specs.Column.{split_of}
use Rattle.forward.proofs.UseLaws.{set_passed, set_ready, until_whole, columns_lacking}
use Rattle.forward.proofs.set_pass.Goals as goal

pub pass_slots-requires : goal.pass_slots-requires
unfolding split_of
pass_slots-requires c =
    (until_whole _ _ _ _ _ _ _ _ _ (set_ready _ _ _ _ _ _ _ c.requires), omega arith, λ e. absurd (not_both e refl))

pub returns : goal.returns
unfolding split_of
returns c =
    set_passed _ _ _ _ _ _ _ _ _ _ _ c.requires
    (columns_lacking _ _ _ _ _ _ _ _ _ _ _ _ _ c.pass_slots.ensures) c.is_err.ensures.value
