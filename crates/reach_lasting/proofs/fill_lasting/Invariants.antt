-- `reach_lasting::fill_lasting` meets its contract. The loop's invariant: the tables are in the state of the pass before slot u is done
-- with, the records below j folded in, those from i on not settled. The measure is the number of records and slots left.
-- Assumes nothing.
use Prim.Native.Nat.{◌+◌, ◌-◌}
use Rattle.temporal.specs.Bytes.{records}
use Rattle.plan.specs.Setting.{terms_of}
use Rattle.reach_entries.specs.Pass.{tables_of}
use Rattle.reach_lasting.proofs.TurnLaws.{Running}
use Rattle.reach_lasting.proofs.fill_lasting.Given as goal

abbrev pub invariant-loop-u : goal.invariant-loop-u
invariant-loop-u l =
    Running l.plan l.setting.stations l.setting.slots (terms_of l.setting) l.source l.width l.wait l.end (tables_of l.initial.hops l.initial.counts l.initial.station_hops l.initial.station_counts) l.u l.j l.i (tables_of l.hops l.counts l.station_hops l.station_counts)

abbrev pub decreases-loop-u : goal.decreases-loop-u
decreases-loop-u l = (records l.plan - l.j) + (l.end - l.u)
