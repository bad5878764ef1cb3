-- `struck::struck_work` meets its contract.
-- Assumes nothing.
use native.Mathlib.Omega.{arith}
use mathlib.Core.Path.{◌∙◌}
use Rattle.walks.proofs.Accepted.{accepted}
use Rattle.struck.proofs.StruckLaws.{work_lent, work_room, work_same, work_sub, work_roomy}
use Rattle.struck.proofs.struck_work.Goals as goal

pub overflow_add-t : goal.overflow_add-t
overflow_add-t c = omega (arith, (accepted _ _ _ c.requires.asked.accepted).slots)

pub overflow_mul-t : goal.overflow_mul-t
overflow_mul-t c = omega (arith, (accepted _ _ _ c.requires.asked.accepted).slots)

pub most_columns-most-requires : goal.most_columns-most-requires
most_columns-most-requires c = work_lent _ 0 _ _ _ _ _ _ c.requires _ _ c.depth-depth.ensures

pub base_of-base-requires : goal.base_of-base-requires
base_of-base-requires c = let a = accepted _ _ _ c.requires.asked.accepted in (a.stations, a.slots)

pub room_block-requires : goal.room_block-requires
room_block-requires c = work_room _ 0 _ _ _ _ _ _ c.requires _ _ c.depth-depth.ensures _ _ c.most_columns-most.ensures c.base_of-base.ensures

pub returns-in_default : goal.returns-in_default
returns-in_default c = c.struck_narrow.ensures ∙ work_same _ _ _ _ _ _ _ _ c.requires _ _ c.depth-depth.ensures _ _ c.most_columns-most.ensures c.base_of-base.ensures

pub overflow_sub-base : goal.overflow_sub-base
overflow_sub-base c = work_sub _ 0 _ _ _ _ _ _ c.requires _ _ c.depth-depth.ensures _ _ c.most_columns-most.ensures c.base_of-base.ensures

pub struck_roomy-requires : goal.struck_roomy-requires
struck_roomy-requires c = work_roomy _ 0 _ _ _ _ _ _ c.requires _ _ c.depth-depth.ensures _ _ c.most_columns-most.ensures c.base_of-base.ensures _ c.in-Some.ensures

pub returns : goal.returns
returns c = c.struck_roomy.ensures ∙ work_same _ _ _ _ _ _ _ _ c.requires _ _ c.depth-depth.ensures _ _ c.most_columns-most.ensures c.base_of-base.ensures
