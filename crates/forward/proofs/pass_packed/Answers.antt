-- `forward::pass_packed` meets its contract: the pass with the columns of the block.
-- Assumes nothing.
use Rattle.std.proofs.Common.{refl}
use Rattle.std.proofs.lemmas.Result.{err_from_is_err_and}
use Rattle.pass.specs.Column.{column_of, split_of}
use Rattle.forward.proofs.UseLaws.{few_spared, packed_ready, packed_passed}
use Rattle.forward.proofs.pass_packed.Goals as goal

pub pass_slots-requires : goal.pass_slots-requires
unfolding column_of split_of
pass_slots-requires c =
    let (ready, few) = packed_ready _ _ _ _ _ _ _ _ _ c.requires.0 in
    (ready, few, few_spared _ _ _ _ _ _ c.requires.1)

pub returns-in_err-pass_slots : goal.returns-in_err-pass_slots
unfolding column_of split_of
returns-in_err-pass_slots c =
    let p = err_from_is_err_and c.from_residual.result c.from_residual.ensures.1 in
    rw (p.1, p.2) (packed_passed _ _ _ _ _ _ _ _ _ _ _ c.requires.0 _ _ c.in_err-pass_slots.ensures refl)

pub returns : goal.returns
unfolding column_of split_of
returns c = packed_passed _ _ _ _ _ _ _ _ _ _ _ c.requires.0 _ _ c.in_ok-pass_slots.ensures refl
