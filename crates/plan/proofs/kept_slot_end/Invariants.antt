-- `plan::kept_slot_end` meets its contract. The loop's invariant: the records from j to before i are in slot u. The measure is the number of
-- records left.
-- Assumes nothing.
use Prim.Native.Nat.{◌-◌}
use Rattle.temporal.specs.Bytes.{records}
use Rattle.temporal.specs.Struck.{lacking_record}
use Rattle.plan.proofs.SlotLaws.{Counting}
use Rattle.plan.proofs.kept_slot_end.Given as goal

abbrev pub invariant-loop-i : goal.invariant-loop-i
invariant-loop-i l = Counting (lacking_record l.plan l.out) l.u l.j l.i

abbrev pub decreases-loop-i : goal.decreases-loop-i
decreases-loop-i l = records (lacking_record l.plan l.out) - l.i
