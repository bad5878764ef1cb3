-- `struck::struck_narrow` meets its contract.
-- Assumes nothing.
use native.Mathlib.Omega.{arith}
use mathlib.Core.Path.{refl, ◌∙◌}
use Rattle.walks.proofs.Accepted.{accepted}
use Rattle.plan.proofs.LimitLaws.{limited_places}
use Rattle.struck.proofs.StruckLaws.{clear_ready, struck_with, struck_room, struck_writable, struck_either, struck_subtractable}
use Rattle.struck.proofs.StruckLaws.{struck_done}
use Rattle.struck.proofs.struck_narrow.Goals as goal

pub refuse_too_many-requires : goal.refuse_too_many-requires
refuse_too_many-requires c = clear_ready _ 0 _ _ _ _ _ c.requires _ _ refl c.tally.ensures.same_length

pub returns-then-tally : goal.returns-then-tally
returns-then-tally c = c.refuse_too_many.ensures ∙ struck_with _ _ _ _ _ _ _ c.requires _ _ c.tally.ensures c.if-tally.true

pub base_of-requires : goal.base_of-requires
base_of-requires c = let a = accepted _ _ _ c.requires.asked.accepted in (a.stations, a.slots)

pub overflow_add-loads : goal.overflow_add-loads
overflow_add-loads c = omega (arith, struck_room _ 0 _ _ _ _ _ c.requires _ (rw c.if-tally.false at c.tally.ensures) _ c.base_of.ensures, c.well_formed.1.0)

pub write_loads-requires : goal.write_loads-requires
write_loads-requires c = struck_writable _ 0 _ _ _ _ _ c.requires _ (rw c.if-tally.false at c.tally.ensures) _ c.base_of.ensures

pub refuse_too_many-requires-in_default : goal.refuse_too_many-requires-in_default
refuse_too_many-requires-in_default c = clear_ready _ 0 _ _ _ _ _ c.requires _ _ c.write_loads.auto.changes (c.strike.ensures.same_length ∙ c.tally.ensures.same_length)

pub returns-in_default : goal.returns-in_default
returns-in_default c = c.refuse_too_many-in_default.ensures ∙ struck_either _ _ _ _ _ _ _ c.requires _ (rw c.if-tally.false at c.tally.ensures) _ c.base_of.ensures _ c.write_loads.ensures _ (rw c.in_default.is at c.strike.ensures)

pub subtract_loads-requires : goal.subtract_loads-requires
subtract_loads-requires c = struck_subtractable _ _ _ _ _ _ _ c.requires _ (rw c.if-tally.false at c.tally.ensures) _ c.base_of.ensures _ c.write_loads.ensures _ _ (rw c.in-Some.is at c.strike.ensures)

pub overflow_add-t : goal.overflow_add-t
overflow_add-t c = omega (arith, (accepted _ _ _ c.requires.asked.accepted).slots)

pub overflow_mul-n : goal.overflow_mul-n
overflow_mul-n c = let a = accepted _ _ _ c.requires.asked.accepted in omega (arith, limited_places _ _ a.stations a.slots)

pub overflow_mul-n-2 : goal.overflow_mul-n-2
overflow_mul-n-2 c = let a = accepted _ _ _ c.requires.asked.accepted in omega (arith, limited_places _ _ a.stations a.slots)

pub returns : goal.returns
returns c = struck_done _ _ _ _ _ _ _ c.requires _ (rw c.if-tally.false at c.tally.ensures) _ c.base_of.ensures _ c.write_loads.ensures _ _ (rw c.in-Some.is at c.strike.ensures) _ _ c.subtract_loads.ensures c.clear.ensures
