-- `judging::is_found` meets its contract: what the search finds is compared.
-- Assumes nothing.
use Rattle.judging.proofs.LegLaws.{tells_found}
use Rattle.judging.proofs.is_found.Goals as goal

pub returns : goal.returns
returns c = tells_found _ _ _ _ _ c.requires _ _ c.found_behind.ensures _ _ c.eq.ensures
