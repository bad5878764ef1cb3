-- `stale::mask_entry` meets its contract: the count does not fit, or the row is masked.
-- Assumes nothing.
use Rattle.std.proofs.Common.{sym, ◌∙◌}
use Rattle.stale.proofs.WindowSteps.{mask_stop, mask_done}
use Rattle.stale.proofs.mask_entry.Goals as goal

pub returns-then-wide_entry : goal.returns-then-wide_entry
returns-then-wide_entry c =
    mask_stop _ _ _ _ _ _ _ (sym c.if-wide_entry.true ∙ c.wide_entry.ensures)

pub returns : goal.returns
returns c =
    mask_done _ _ _ _ _ _ _ _ _ (sym c.if-wide_entry.false ∙ c.wide_entry.ensures) c.row_at.ensures
    c.mask_row.ensures
