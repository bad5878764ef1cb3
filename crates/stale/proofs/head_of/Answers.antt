-- `stale::head_of` meets its contract.
-- Assumes nothing.
use Rattle.std.proofs.Common.{arith}
use Rattle.stale.proofs.WindowSteps.{head_place}
use Rattle.stale.proofs.head_of.Goals as goal

pub offset_bounds-work-at : goal.offset_bounds-work-at
offset_bounds-work-at c =
    omega (arith, head_place c.requires.0 _ _ c.requires.1 c.mark_at-at.ensures, c.well_formed.0)

pub bounds-work-at : goal.bounds-work-at
bounds-work-at c =
    omega (arith, head_place c.requires.0 _ _ c.requires.1 c.mark_at-at.ensures)
