-- `lanes::without_lane` meets its contract: the lane at its place is taken from the entry.
-- Assumes nothing.
use native.Mathlib.Omega.{arith}
use Rattle.lanes.proofs.ShiftLaws.{shifted_part, shifted_without}
use Rattle.lanes.proofs.without_lane.Goals as goal

pub overflow_sub-result : goal.overflow_sub-result
overflow_sub-result c = shifted_part _ _ _ (omega arith) c.lane_at.ensures

pub returns : goal.returns
returns c = shifted_without _ _ _ (omega arith) c.lane_at.ensures
