-- `pair::store` meets its contract. The loop's invariant: the first j stations of the block are stored.
-- Assumes nothing.
use Prim.Native.Nat.{◌≤◌}
use Rattle.pair.specs.Throughs.{StoredBlock}
use Rattle.pair.proofs.store.Given as goal

abbrev pub invariant-loop-j : goal.invariant-loop-j
invariant-loop-j l = (l.j ≤ l.block) × StoredBlock l.n l.z l.low l.block l.j l.work l.initial.through l.through
