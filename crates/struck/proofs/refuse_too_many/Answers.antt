-- `struck::refuse_too_many` meets its contract.
-- Assumes nothing.
use Rattle.struck.proofs.StruckLaws.{cleared_both}
use Rattle.struck.proofs.refuse_too_many.Goals as goal

pub returns : goal.returns
returns c = cleared_both _ _ _ _ _ _ c.clear_changes.ensures c.clear.ensures
