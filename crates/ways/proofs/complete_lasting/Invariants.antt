-- `ways::complete_lasting` meets its contract. The loop's invariant: the start's column holds what starts with the records from j on, and
-- those from i on are stored. The measure is the number of records left to store and to fold in.
-- Assumes nothing.
use Prim.Native.Nat.{◌+◌}
use Rattle.plan.specs.Setting.{terms_of}
use Rattle.ways.proofs.PassLaws.{Passing}
use Rattle.ways.proofs.complete_lasting.Given as goal

abbrev pub invariant-loop-j : goal.invariant-loop-j
invariant-loop-j l = Passing l.plan l.fn.setting.stations l.fn.setting.slots (terms_of l.fn.setting) l.z l.initial.work l.i l.j l.work

abbrev pub decreases-loop-j : goal.decreases-loop-j
decreases-loop-j l = l.i + l.j
