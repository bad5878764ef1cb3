-- `stale::follow` meets its contract.
-- Assumes nothing.
use Rattle.std.proofs.Common.{arith}
use Rattle.stale.proofs.WindowSteps.{number_mark_place, follow_early, follow_on}
use Rattle.stale.proofs.follow.Goals as goal

pub offset_bounds-work-at : goal.offset_bounds-work-at
offset_bounds-work-at c =
    omega (arith, number_mark_place c.requires.0 _ _ c.number_mark-at.ensures, c.well_formed.0.0)

pub bounds-work-at : goal.bounds-work-at
bounds-work-at c =
    omega (arith, number_mark_place c.requires.0 _ _ c.number_mark-at.ensures)

pub returns-then-slot-first : goal.returns-then-slot-first
returns-then-slot-first c =
    follow_early _ _ _ _ _ _ _ _ _ _ c.requires.3 c.number_mark-at.ensures (omega arith)

pub returns : goal.returns
returns c =
    follow_on _ _ _ _ _ _ _ _ _ _ c.requires.3 c.number_mark-at.ensures _ _ (omega arith) c.take_kept.ensures
    c.lower_link.ensures.0 c.lower_link.ensures.1
