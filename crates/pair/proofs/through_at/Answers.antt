-- `pair::through_at` meets its contract: the count less the entry, which lies within the work area.
-- Assumes nothing.
use Rattle.pair.proofs.PlaceLaws.{row_inside}
use Rattle.pair.proofs.through_at.Goals as goal

pub bounds-work-at : goal.bounds-work-at
bounds-work-at c = row_inside _ _ _ _ _ c.requires.station c.requires.column c.requires.fits

pub overflow_sub-result : goal.overflow_sub-result
overflow_sub-result c = c.requires.at_most c.if-low-j.false c.if-work-z-eq65535.false
