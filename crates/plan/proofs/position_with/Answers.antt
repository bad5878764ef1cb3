-- `plan::position_with` meets its contract.
-- Assumes nothing.
use native.Mathlib.Omega.{arith}
use mathlib.Core.Path.{sym}
use Rattle.walks.proofs.LackingPositions.{position_before, position_after}
use Rattle.plan.proofs.position_with.Goals as goal

pub returns-then-j-out : goal.returns-then-j-out
returns-then-j-out c = sym (position_before _ _ (omega arith))

pub returns-else-j-out : goal.returns-else-j-out
returns-else-j-out c = sym (position_after _ _ (omega arith))
