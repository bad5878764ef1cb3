-- `judging::first_leg` meets its contract: the first position behind the leg before is the first of all.
-- Assumes nothing.
use Rattle.judging.proofs.LegLaws.{first_of_all}
use Rattle.judging.proofs.first_leg.Goals as goal

pub returns : goal.returns
returns c =
    rw c.from.ensures at (first_of_all _ _ _ _ _ c.requires _ _ _ c.search_from-from.ensures c.is_found.ensures)
