-- `lanes::lane_of` meets its contract: the mask keeps the lowest places. Assumes nothing.
use Rattle.lanes.proofs.ShiftLaws.{masked}
use Rattle.lanes.proofs.lane_of.Goals as goal

pub returns : goal.returns
returns c = masked _ _ c.requires.0
