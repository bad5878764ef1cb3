-- `ways::serves` meets its contract: the entry of where the position leads is compared.
-- Assumes nothing.
use native.Mathlib.Omega.{arith}
use Rattle.walks.proofs.Accepted.{accepted}
use Rattle.ways.proofs.CodeLaws.{serves_nowhere, serves_there, serves_room}
use Rattle.ways.proofs.serves.Goals as goal

pub returns-in_default : goal.returns-in_default
returns-in_default c = serves_nowhere _ c.args.q _ _ _ _ _ c.step_on.ensures c.in_default.is

pub overflow_add-result : goal.overflow_add-result
overflow_add-result c = omega (arith, (accepted _ _ _ c.requires.accepted).slots)

pub overflow_mul-result : goal.overflow_mul-result
overflow_mul-result c = omega (arith, serves_room _ _ _ _ c.args.need _ _ c.step_on.ensures _ c.in-Some.is c.requires, c.well_formed.0.0)

pub overflow_add-result-2 : goal.overflow_add-result-2
overflow_add-result-2 c = omega (arith, serves_room _ _ _ _ c.args.need _ _ c.step_on.ensures _ c.in-Some.is c.requires, c.well_formed.0.0)

pub offset_bounds-work-y : goal.offset_bounds-work-y
offset_bounds-work-y c = omega (arith, serves_room _ _ _ _ c.args.need _ _ c.step_on.ensures _ c.in-Some.is c.requires, c.well_formed.0.1)

pub bounds-work-y : goal.bounds-work-y
bounds-work-y c = omega (arith, serves_room _ _ _ _ c.args.need _ _ c.step_on.ensures _ c.in-Some.is c.requires)

pub returns : goal.returns
returns c = serves_there _ c.args.q _ _ _ _ _ c.step_on.ensures _ c.in-Some.is
