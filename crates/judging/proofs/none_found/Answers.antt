-- `judging::none_found` meets its contract: whether the search finds anything.
-- Assumes nothing.
use Rattle.judging.proofs.LegLaws.{tells_none}
use Rattle.judging.proofs.none_found.Goals as goal

pub returns : goal.returns
returns c = tells_none _ _ _ _ _ c.requires _ _ c.found_behind.ensures _ c.is_none.ensures
