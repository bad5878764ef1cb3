-- `reach_lasting::settle_records` meets its contract. The loop's invariant: the hearers of the records below k are taken in and marked, the
-- other stations are as they were.
-- Assumes nothing.
use Prim.Native.Nat.{◌≤◌}
use Rattle.reach_entries.specs.Pass.{tables_of}
use Rattle.reach_lasting.proofs.SweepLaws.{Sweeping}
use Rattle.reach_lasting.proofs.settle_records.Given as goal

abbrev pub invariant-loop-k : goal.invariant-loop-k
invariant-loop-k l =
    Sweeping l.plan l.n l.width l.u l.i (tables_of l.hops l.initial.counts l.initial.station_hops l.initial.station_counts) l.k (tables_of l.hops l.counts l.station_hops l.station_counts) × (l.k ≤ l.end)
