-- `stale::mask_row` meets its contract: each branch by its comparison.
-- Assumes nothing.
use Rattle.std.proofs.Common.{arith}
use Rattle.stale.proofs.WindowSteps.{row_asked, row_own, row_none}
use Rattle.stale.proofs.mask_row.Goals as goal

pub clear_column-requires : goal.clear_column-requires
clear_column-requires c =
    row_asked _ _ _ _ _ _ c.columns_of-count.ensures (rw c.split_of-split.ensures c.requires.1) (omega arith)
    c.requires.0 (omega (arith, c.requires.0, c.well_formed.0))

pub returns-then-j-count : goal.returns-then-j-count
returns-then-j-count c =
    row_own _ _ _ _ _ _ _ _ _ _ c.split_of-split.ensures c.columns_of-count.ensures c.column_of-j.ensures
    _ (omega arith) c.clear_column.ensures

pub returns-else-j-count : goal.returns-else-j-count
returns-else-j-count c =
    row_none _ _ _ _ _ _ _ _ _ _ c.split_of-split.ensures c.columns_of-count.ensures c.column_of-j.ensures
    (omega arith)
