-- `struck::struck_roomy` meets its contract.
-- Assumes nothing.
use native.Mathlib.Omega.{arith}
use mathlib.Core.Path.{◌∙◌}
use Rattle.walks.proofs.Accepted.{accepted}
use Rattle.struck.proofs.StruckLaws.{roomy_clear, roomy_over, roomy_writable, roomy_subtractable, roomy_done}
use Rattle.struck.proofs.struck_roomy.Goals as goal

pub refuse_too_many-requires : goal.refuse_too_many-requires
refuse_too_many-requires c = roomy_clear _ 0 _ _ _ _ _ _ _ _ c.requires _ c.strike_roomy.ensures.same_length

pub returns-in_default : goal.returns-in_default
returns-in_default c = c.refuse_too_many.ensures ∙ roomy_over _ _ _ _ _ _ _ _ _ _ c.requires _ (rw c.in_default.is at c.strike_roomy.ensures)

pub write_loads-requires : goal.write_loads-requires
write_loads-requires c = roomy_writable _ _ _ _ _ _ _ _ _ _ c.requires _ _ (rw c.in-Some.is at c.strike_roomy.ensures)

pub subtract_loads-requires : goal.subtract_loads-requires
subtract_loads-requires c = roomy_subtractable _ _ _ _ _ _ _ _ _ _ c.requires _ _ (rw c.in-Some.is at c.strike_roomy.ensures) _ c.write_loads.ensures

pub overflow_add-t : goal.overflow_add-t
overflow_add-t c = omega (arith, (accepted _ _ _ c.requires.room.accepted).slots)

pub returns : goal.returns
returns c = roomy_done _ _ _ _ _ _ _ _ _ _ c.requires _ _ (rw c.in-Some.is at c.strike_roomy.ensures) _ c.write_loads.ensures _ _ c.subtract_loads.ensures c.clear.ensures
