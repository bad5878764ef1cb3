-- `layered::layer` meets its contract. The loop's invariant: the slots before position lo are written. The measure is the number of
-- records left.
-- Assumes nothing.
use Prim.Native.Nat.{◌-◌}
use Rattle.temporal.specs.Bytes.{records}
use Rattle.layered.proofs.LayeringLaws.{Layering}
use Rattle.layered.proofs.layer.Given as goal

abbrev pub invariant-loop-lo : goal.invariant-loop-lo
invariant-loop-lo l = Layering l.plan l.n l.v l.initial.out l.lo l.out

abbrev pub decreases-loop-lo : goal.decreases-loop-lo
decreases-loop-lo l = records l.plan - l.lo
