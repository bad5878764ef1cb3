-- `ways::begin_window` meets its contract: a fill, and the destination's row.
-- Assumes nothing.
use native.Mathlib.Omega.{arith}
use Rattle.ways.proofs.WindowLaws.{row_below, begun_by}
use Rattle.ways.proofs.begin_window.Goals as goal

pub overflow_mul-z : goal.overflow_mul-z
overflow_mul-z c = omega (arith, row_below _ c.requires.1 c.requires.0, c.well_formed.0.0)

pub fill_part-requires : goal.fill_part-requires
fill_part-requires c = omega (arith, row_below _ c.requires.1 c.requires.0, c.fill.auto.table)

pub returns : goal.returns
returns c = begun_by _ _ _ _ _ _ c.fill.ensures c.fill_part.ensures
