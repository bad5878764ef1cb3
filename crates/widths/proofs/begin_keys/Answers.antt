-- `widths::begin_keys` meets its contract: two fills, then the walks of the sources.
-- Assumes nothing.
use Rattle.widths.proofs.CodeLaws.{begun_keys_by}
use Rattle.widths.proofs.begin_keys.Goals as goal

pub returns : goal.returns
returns c = begun_keys_by _ _ _ _ _ _ _ c.fill_part.ensures c.fill_part-2.ensures c.start_sources.ensures
