-- `layered::write_slot` meets its contract. The loop's invariant: the places of the slot before q are written.
-- Assumes nothing.
use native.Mathlib.Omega.{arith}
use Rattle.layered.proofs.WritingLaws.{written_next}
use Rattle.layered.proofs.SlotLaws.{slot_wrote}
use Rattle.layered.proofs.write_slot.Goals as goal

pub loop-q-preserved : goal.loop-q-preserved
loop-q-preserved c =
    rw c.write_place.ensures (written_next _ _ _ _ _ _ (omega arith) c.loop-q.invariant)

pub returns : goal.returns
returns c = slot_wrote _ _ _ _ _ _ (omega arith) c.loop-q.invariant
