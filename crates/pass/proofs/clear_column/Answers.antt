-- `pass::clear_column` meets its contract: the lane is cleared in its entry.
-- Assumes nothing.
use Rattle.pass.proofs.WidthLaws.{column_asked}
use Rattle.pass.proofs.clear_column.Goals as goal

pub without_lane-requires : goal.without_lane-requires
without_lane-requires c = column_asked _ _ _ _ c.requires.0 c.width_of-w.ensures c.lane_of-l.ensures
