-- `pass::mask` meets its contract: each branch by its comparison.
-- Assumes nothing.
use Rattle.std.proofs.Common.{sym, ◌∙◌, arith}
use Rattle.pass.proofs.PlaceLaws.{masked_source}
use Rattle.pass.proofs.WidthLaws.{clear_asked, masked_by, masked_past}
use Rattle.pass.proofs.mask.Goals as goal

pub returns-then-v-source : goal.returns-then-v-source
returns-then-v-source c = sym (masked_source _ _ _ _ _ _ _ (omega arith))

pub clear_column-requires : goal.clear_column-requires
clear_column-requires c =
    clear_asked _ _ _ _ _ _ _ _ c.columns_of-count.ensures (rw c.split_of-split.ensures c.requires.1) (omega arith)
    c.row_at-row.ensures c.requires.0 (omega (arith, c.requires.0, c.well_formed.0))

pub returns-then-j-count : goal.returns-then-j-count
returns-then-j-count c =
    c.clear_column.ensures
    ∙ masked_by _ _ _ _ _ _ _ _ _ _ _ _ c.split_of-split.ensures c.columns_of-count.ensures c.column_of-j.ensures (omega arith)
    (omega arith) c.row_at-row.ensures

pub returns-else-j-count : goal.returns-else-j-count
returns-else-j-count c =
    sym (masked_past _ _ _ _ _ _ _ _ 0 _ _ _ c.split_of-split.ensures c.columns_of-count.ensures c.column_of-j.ensures
    (omega arith) (omega arith))
