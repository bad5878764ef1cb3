-- `layered::layer` meets its contract. The loop's invariant: the slots before position lo are written. The measure is the number of
-- records left.
-- Assumes nothing.
use native.Mathlib.Omega.{arith}
use Rattle.temporal.specs.Bytes.{records}
use Rattle.layered.proofs.SlotLaws.{layerable_kept}
use Rattle.layered.proofs.LayeringLaws.{layering_bounds, layering_more, layering_all}
use Rattle.layered.proofs.layer.Goals as goal

pub write_slot-requires : goal.write_slot-requires
unfolding records
write_slot-requires c =
    let pre = c.requires in
    let inv = c.loop-lo.invariant in (
      layerable_kept _ _ _ _ inv.written.same_length pre,
      layering_bounds _ _ _ _ pre _ _ inv (omega arith) _ c.slot_end_of-hi.ensures,
    )

pub loop-lo-smaller : goal.loop-lo-smaller
unfolding records
loop-lo-smaller c =
    let pre = c.requires in
    omega (arith, (layering_bounds _ _ _ _ pre _ _ c.loop-lo.invariant (omega arith) _ c.slot_end_of-hi.ensures).rises)

pub loop-lo-preserved : goal.loop-lo-preserved
unfolding records
loop-lo-preserved c =
    let pre = c.requires in
    rw c.write_slot.ensures
    (layering_more _ _ _ _ pre _ _ c.loop-lo.invariant (omega arith) _ c.slot_end_of-hi.ensures)

pub returns : goal.returns
unfolding records
returns c = layering_all _ _ _ _ c.requires _ _ (omega arith) c.loop-lo.invariant
