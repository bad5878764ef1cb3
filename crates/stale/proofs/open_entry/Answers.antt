-- `stale::open_entry` meets its contract: two stores and a row of ones.
-- Assumes nothing.
use Rattle.stale.proofs.WindowSteps.{opened_by}
use Rattle.stale.proofs.open_entry.Goals as goal

pub returns : goal.returns
returns c = opened_by _ _ _ _ _ _ _ _ c.row_at.ensures c.fill_part.ensures
