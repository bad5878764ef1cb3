-- `ways::next_path` meets its contract: the next prefix of as many positions as the hops is the next member of the list.
-- Assumes nothing.
use Rattle.ways.proofs.ListingLaws.{stepped}
use Rattle.ways.proofs.AdvanceLaws.{offered_ready}
use Rattle.ways.proofs.next_path.Goals as goal

pub advance-requires : goal.advance-requires
advance-requires c = offered_ready _ _ _ _ c.requires

pub returns : goal.returns
returns c = stepped _ _ _ c.requires.listable _ c.advance.ensures
