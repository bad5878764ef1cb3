-- `ways::offered` meets its contract: the first entries, as many as the hops, are a walk to the destination.
-- Assumes nothing.
use Rattle.std.proofs.Common.{rules}
use Rattle.ways.proofs.AdvanceLaws.{hops_room, offered_end}
use Rattle.ways.proofs.offered.Goals as goal

pub end_of-requires : goal.end_of-requires
end_of-requires c = hops_room _ _ _ c.requires

pub returns : goal.returns
returns c = offered_end _ _ _ c.requires _ c.end_of.ensures _ (search rules)
