-- `reach_window::settle_all` meets its contract. The loop's invariant: settling the slots from u on gives what settling all gives.
-- Assumes nothing.
use Rattle.reach_entries.specs.Table.{table_of}
use Rattle.reach_window.proofs.WindowLaws.{SettlingAll}
use Rattle.reach_window.proofs.settle_all.Given as goal

abbrev pub invariant-loop-u : goal.invariant-loop-u
invariant-loop-u l = SettlingAll l.n l.width (table_of l.hops l.counts) (table_of l.initial.station_hops l.initial.station_counts) l.u (table_of l.station_hops l.station_counts)
