-- `reach_lasting::unmark_record` meets its contract: 2 is taken away where the count of slot 0 is 2 or more.
-- Assumes nothing.
use native.Mathlib.Omega.{arith}
use Rattle.reach_lasting.proofs.OnceLaws.{mark_place, record_unmarked, record_free}
use Rattle.reach_lasting.proofs.unmark_record.Goals as goal

pub overflow_mul-mark : goal.overflow_mul-mark
overflow_mul-mark c =
    let spot = mark_place _ _ _ _ c.contact_at-c.ensures _ _ c.requires.2 c.requires.1 c.requires.0 in
    omega (arith, c.well_formed.0.0)

pub offset_bounds-counts-mark : goal.offset_bounds-counts-mark
offset_bounds-counts-mark c =
    let spot = mark_place _ _ _ _ c.contact_at-c.ensures _ _ c.requires.2 c.requires.1 c.requires.0 in
    omega (arith, c.well_formed.0.0, c.well_formed.0.1)

pub bounds-counts-mark : goal.bounds-counts-mark
bounds-counts-mark c =
    mark_place _ _ _ _ c.contact_at-c.ensures _ _ c.requires.2 c.requires.1 c.requires.0

pub returns-else-count-ge2 : goal.returns-else-count-ge2
returns-else-count-ge2 c = record_free _ _ _ _ c.contact_at-c.ensures _ c.if-count-ge2.false

pub offset_bounds-counts-mark-then-count-ge2 : goal.offset_bounds-counts-mark-then-count-ge2
offset_bounds-counts-mark-then-count-ge2 c =
    let spot = mark_place _ _ _ _ c.contact_at-c.ensures _ _ c.requires.2 c.requires.1 c.requires.0 in
    omega (arith, c.well_formed.0.0, c.well_formed.0.1)

pub bounds-counts-mark-then-count-ge2 : goal.bounds-counts-mark-then-count-ge2
bounds-counts-mark-then-count-ge2 c =
    mark_place _ _ _ _ c.contact_at-c.ensures _ _ c.requires.2 c.requires.1 c.requires.0

pub returns-then-count-ge2 : goal.returns-then-count-ge2
returns-then-count-ge2 c = record_unmarked _ _ _ _ c.contact_at-c.ensures _ c.if-count-ge2.true
