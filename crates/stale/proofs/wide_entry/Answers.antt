-- `stale::wide_entry` meets its contract: each branch by its comparison.
-- Assumes nothing.
use Rattle.std.proofs.Common.{arith}
use Rattle.stale.proofs.WindowSteps.{entry_whole, entry_some, entry_none}
use Rattle.stale.proofs.wide_entry.Goals as goal

pub returns-then-split-eq0 : goal.returns-then-split-eq0
returns-then-split-eq0 c =
    entry_whole _ _ _ _ _ c.split_of-split.ensures (omega arith)

pub returns-then-h-lt65535 : goal.returns-then-h-lt65535
returns-then-h-lt65535 c =
    entry_some _ _ _ _ _ c.split_of-split.ensures _ (omega arith) c.too_wide.ensures

pub returns-else-h-lt65535 : goal.returns-else-h-lt65535
returns-else-h-lt65535 c =
    entry_none _ _ _ _ _ c.split_of-split.ensures (omega arith)
