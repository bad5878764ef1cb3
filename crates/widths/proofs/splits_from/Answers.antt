-- `widths::splits_from` meets its contract. The loop's invariant: the splits from number i on.
-- Assumes nothing.
use Rattle.std.proofs.Common.{arith}
use Rattle.widths.proofs.NarrowLaws.{splits_none, splits_more, splits_room, split_is_small}
use Rattle.widths.proofs.splits_from.Goals as goal

pub loop-i-init : goal.loop-i-init
loop-i-init c = (omega arith, splits_none _ _ _)

pub overflow_mul-splits : goal.overflow_mul-splits
overflow_mul-splits c =
    let room = splits_room _ _ _ _ _ (omega arith) c.loop-i.invariant.0 c.requires.1 c.loop-i.invariant.1 in
    omega (arith, room)

pub overflow_add-splits : goal.overflow_add-splits
overflow_add-splits c =
    let room = splits_room _ _ _ _ _ (omega arith) c.loop-i.invariant.0 c.requires.1 c.loop-i.invariant.1 in
    omega (arith, room, c.split_for.ensures, split_is_small _ _ c.split_for.ensures)

pub loop-i-preserved : goal.loop-i-preserved
loop-i-preserved c =
    (omega arith, rw c.split_for.ensures (splits_more _ _ _ _ _ (omega arith) c.loop-i.invariant.0 c.loop-i.invariant.1))
