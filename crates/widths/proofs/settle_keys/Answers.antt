-- `widths::settle_keys` meets its contract: a row taken in, the bounds widened, and a row filled.
-- Assumes nothing.
use Rattle.widths.proofs.CodeLaws.{settled_by_law}
use Rattle.widths.proofs.settle_keys.Goals as goal

pub returns : goal.returns
returns c = settled_by_law _ _ _ _ _ _ _ _ c.merge_keys.ensures c.widen_bounds.ensures c.fill_part.ensures
