-- `lanes::lane_at` meets its contract: the two shifts leave the lane.
-- Assumes nothing.
use Rattle.lanes.proofs.ShiftLaws.{lane_shifts}
use Rattle.lanes.proofs.lane_at.Goals as goal

pub returns : goal.returns
returns c = lane_shifts _ _ _ c.requires.1
