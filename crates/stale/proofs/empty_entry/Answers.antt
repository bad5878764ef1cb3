-- `stale::empty_entry` meets its contract: two stores.
-- Assumes nothing.
use Rattle.stale.proofs.WindowSteps.{emptied_cell_by}
use Rattle.stale.proofs.empty_entry.Goals as goal

pub returns : goal.returns
returns c = emptied_cell_by _ _ _ _
