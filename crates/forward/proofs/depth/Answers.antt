-- `forward::depth` meets its contract: as many as a reading is kept slots where nothing goes stale, else what is found.
-- Assumes nothing.
use Rattle.forward.proofs.UseLaws.{depth_kept}
use Rattle.forward.proofs.depth.Goals as goal

pub returns-then-t-h : goal.returns-then-t-h
returns-then-t-h c = depth_kept _ _ _ _ _ c.requires
