-- `pass::begin` meets its contract: parts are emptied, then two stores and a fill.
-- Assumes nothing.
use Rattle.pass.proofs.PlaceLaws.{begun_by}
use Rattle.pass.proofs.begin.Goals as goal

pub returns : goal.returns
returns c = begun_by _ _ _ _ _ _ _ _ _ c.empty_parts.ensures c.row_at-row.ensures c.fill_part.ensures
