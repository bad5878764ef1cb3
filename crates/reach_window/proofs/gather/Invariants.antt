-- `reach_window::gather` meets its contract. The loop's invariant: gathering the slots from t on gives what gathering all gives.
-- Assumes nothing.
use Rattle.reach_entries.specs.Table.{table_of}
use Rattle.reach_window.proofs.WindowLaws.{Gathering}
use Rattle.reach_window.proofs.gather.Given as goal

abbrev pub invariant-loop-t : goal.invariant-loop-t
invariant-loop-t l =
    Gathering l.width (table_of l.hops l.counts) l.v l.from l.end (table_of l.initial.station_hops l.initial.station_counts) l.t (table_of l.station_hops l.station_counts)
