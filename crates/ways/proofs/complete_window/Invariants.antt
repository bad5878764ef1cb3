-- `ways::complete_window` meets its contract. The loop's invariant: every entry holds what starts with the records from j on.
-- Assumes nothing.
use Rattle.plan.specs.Setting.{terms_of}
use Rattle.ways.proofs.WindowLaws.{Windowing}
use Rattle.ways.proofs.complete_window.Given as goal

abbrev pub invariant-loop-j : goal.invariant-loop-j
invariant-loop-j l = Windowing l.plan l.fn.setting.stations l.fn.setting.slots (terms_of l.fn.setting) l.z l.initial.work l.j l.work
