-- `reach_window::fill_window` meets its contract. The loop's invariant: the records below j are folded in.
-- Assumes nothing.
use Rattle.plan.specs.Setting.{terms_of}
use Rattle.reach_entries.specs.Pass.{tables_of}
use Rattle.reach_window.proofs.WindowLaws.{Windowing}
use Rattle.reach_window.proofs.fill_window.Given as goal

abbrev pub invariant-loop-j : goal.invariant-loop-j
invariant-loop-j l =
    Windowing l.plan l.setting.stations l.setting.slots (terms_of l.setting) l.source l.width l.m (tables_of l.initial.hops l.initial.counts l.initial.station_hops l.initial.station_counts) l.j (tables_of l.hops l.counts l.station_hops l.station_counts)
