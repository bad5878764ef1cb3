-- `layered::write_slot` meets its contract. The loop's invariant: the places of the slot before q are written.
-- Assumes nothing.
use Prim.Native.Nat.{◌*◌}
use Rattle.layered.specs.Layered.{layered_contact}
use Rattle.layered.proofs.WritingLaws.{Written}
use Rattle.layered.proofs.write_slot.Given as goal

abbrev pub invariant-loop-q : goal.invariant-loop-q
invariant-loop-q l = Written (layered_contact l.plan l.n l.v) l.initial.out (2 * l.lo) (2 * l.hi) l.q l.out
