-- `plan::kept_in_slot` meets its contract.
-- Assumes nothing.
use native.Mathlib.Omega.{arith}
use mathlib.Core.Path.{sym, ◌∙◌}
use borrow.Author.Tests.{le-ltb}
use Rattle.plan.proofs.SlotLaws.{kept_in_slot, lacking_past_slot}
use Rattle.plan.proofs.kept_in_slot.Goals as goal

pub returns-then-j-plan : goal.returns-then-j-plan
returns-then-j-plan c = kept_in_slot _ _ _ _ _ _ c.position_with.ensures c.in_slot.ensures

pub returns-else-j-plan : goal.returns-else-j-plan
returns-else-j-plan c = le-ltb _ _ c.if-j-plan.false ∙ sym (lacking_past_slot _ _ _ _ (omega arith))
