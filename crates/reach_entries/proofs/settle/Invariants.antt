-- `reach_entries::settle` meets its contract. The loop's invariant: settling the stations from v on gives what settling all from the
-- first gives.
-- Assumes nothing.
use Rattle.reach_entries.specs.Table.{table_of}
use Rattle.reach_entries.proofs.MergeLaws.{SettlingTable}
use Rattle.reach_entries.proofs.settle.Given as goal

abbrev pub invariant-loop-v : goal.invariant-loop-v
invariant-loop-v l = SettlingTable l.width l.u l.n (table_of l.hops l.counts) (table_of l.initial.station_hops l.initial.station_counts) l.v (table_of l.station_hops l.station_counts)
