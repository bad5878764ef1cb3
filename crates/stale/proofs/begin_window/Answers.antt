-- `stale::begin_window` meets its contract.
-- Assumes nothing.
use Rattle.std.proofs.Common.{arith}
use Rattle.stale.proofs.WindowSteps.{begun_by, heads_fit}
use Rattle.stale.proofs.begin_window.Goals as goal

pub fill_part-requires : goal.fill_part-requires
fill_part-requires c =
    omega (arith, heads_fit c.requires.0, c.mark_at-heads.ensures, c.begin_columns.auto.work)

pub returns : goal.returns
returns c =
    begun_by _ _ _ _ _ _ _ _ _ c.begin_columns.ensures c.mark_at-heads.ensures c.fill_part.ensures
