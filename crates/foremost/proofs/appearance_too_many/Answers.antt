-- `foremost::appearance_too_many` meets its contract.
-- Assumes nothing.
use native.Mathlib.Omega.{arith}
use mathlib.Core.Path.{refl}
use Rattle.lists.proofs.ListLaws.{not_both}
use Rattle.pass.specs.Column.{column_of, split_of}
use Rattle.forward.proofs.UseLaws.{columns_whole}
use Rattle.foremost.proofs.WorkLaws.{appearances_pass, appearances_met}
use Rattle.foremost.proofs.appearance_too_many.Goals as goal

pub pass_columns-ended-requires : goal.pass_columns-ended-requires
unfolding split_of
pass_columns-ended-requires c = (appearances_pass _ _ _ _ _ _ c.requires, omega arith, λ e. absurd (not_both e refl))

pub returns : goal.returns
unfolding column_of split_of
returns c =
    appearances_met _ _ _ _ _ _ c.requires _ _ _
    (columns_whole _ _ _ _ _ _ _ _ _ _ _ _ c.pass_columns-ended.ensures) c.met_appearance.ensures
