-- `tallies::entries_for` meets its contract.
-- Assumes nothing.
use native.Mathlib.Omega.{arith}
use Rattle.tallies.proofs.LaneLaws.{entries_asked, entries_for}
use Rattle.tallies.proofs.entries_for.Goals as goal

pub overflow_add-left : goal.overflow_add-left
overflow_add-left c = let a = entries_asked _ c.requires.0 in omega (arith, c.columns_of-lanes.ensures, c.requires.1)

pub overflow_sub-left : goal.overflow_sub-left
overflow_sub-left c = let a = entries_asked _ c.requires.0 in omega (arith, c.columns_of-lanes.ensures)

pub returns : goal.returns
returns c =
    entries_for _ _ _ _ _ c.requires.0 c.columns_of-lanes.ensures c.entry_of-all.ensures _ c.min.ensures
