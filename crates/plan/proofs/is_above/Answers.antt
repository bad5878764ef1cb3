-- `plan::is_above` meets its contract: at each return the comparisons on the way decide the order.
-- Assumes nothing.
use native.Mathlib.Omega.{arith}
use mathlib.Core.Path.{sym}
use Rattle.walks.proofs.CheckLaws.{above_slot, below_slot, above_sender, below_sender, above_hearer}
use Rattle.plan.proofs.is_above.Goals as goal

pub returns-then-c-d : goal.returns-then-c-d
returns-then-c-d c = sym (above_slot _ _ (omega arith))

pub returns-then-d-c : goal.returns-then-d-c
returns-then-d-c c = sym (below_slot _ _ (omega arith))

pub returns-then-c-d-2 : goal.returns-then-c-d-2
returns-then-c-d-2 c = sym (above_sender _ _ (omega arith) (omega arith))

pub returns-then-d-c-2 : goal.returns-then-d-c-2
returns-then-d-c-2 c = sym (below_sender _ _ (omega arith) (omega arith))

pub returns : goal.returns
returns c = sym (above_hearer _ _ (omega arith) (omega arith))
