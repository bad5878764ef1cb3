-- `stale::window_columns` meets its contract.
-- Assumes nothing.
use Rattle.stale.proofs.SizeLaws.{columns_by}
use Rattle.stale.proofs.window_columns.Goals as goal

pub returns : goal.returns
returns c = columns_by _ _ _ _ c.min.ensures
