-- `foremost::foremost_work` meets its contract: too many clears both buffers; else the counts stand in the table and in the work
-- area, which is then cleared.
-- Assumes nothing.
use Rattle.foremost.proofs.WorkLaws.{foremost_refused, foremost_counted}
use Rattle.walks.proofs.Accepted.{accepted}
use mathlib.Core.Path.{refl}
use native.Mathlib.Omega.{arith}
use Rattle.foremost.proofs.foremost_work.Goals as goal

pub overflow_add-t : goal.overflow_add-t
overflow_add-t c = omega (arith, (accepted _ _ _ c.requires.0.accepted).slots)

pub returns-in_default : goal.returns-in_default
returns-in_default c =
    foremost_refused _ _ _ _ _ _ _ _ c.requires.0 _ _ c.in_default.ensures _ _ c.clear.ensures c.clear-in_default.ensures

pub overflow_add-t-2 : goal.overflow_add-t-2
overflow_add-t-2 c = omega (arith, (accepted _ _ _ c.requires.0.accepted).slots)

pub returns : goal.returns
returns c =
    foremost_counted _ _ _ _ _ _ _ _ c.requires.0 _ _ _ c.in-Some.ensures _ _ _ _ c.slot_value.ensures refl refl c.clear-2.ensures
