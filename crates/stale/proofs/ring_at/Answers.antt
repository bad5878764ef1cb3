-- `stale::ring_at` meets its contract.
-- Assumes nothing.
use Rattle.stale.proofs.RingPlaces.{ring_is}
use Rattle.stale.proofs.ring_at.Goals as goal

pub returns : goal.returns
returns c = ring_is _ _ _ _ _ c.part_size.ensures c.requires.0 c.requires.2
