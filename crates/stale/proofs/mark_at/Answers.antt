-- `stale::mark_at` meets its contract.
-- Assumes nothing.
use Rattle.stale.proofs.RingPlaces.{mark_is}
use Rattle.stale.proofs.mark_at.Goals as goal

pub returns : goal.returns
returns c = mark_is _ _ _ _ _ c.part_size.ensures c.requires.0 c.requires.2 _ c.requires.1
