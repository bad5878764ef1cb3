-- `stale::push_marks` meets its contract: the mark is written, and the two heads.
-- Assumes nothing.
use Rattle.std.proofs.Common.{set, refl, arith, lt-length-set}
use Rattle.stale.proofs.WindowSteps.{head_place, number_mark_place, marks_by}
use Rattle.stale.proofs.push_marks.Goals as goal

pub offset_bounds-work-head : goal.offset_bounds-work-head
offset_bounds-work-head c =
    omega (arith, head_place c.requires.0 _ _ c.requires.1 c.mark_at-head.ensures, c.well_formed.0.0)

pub bounds-work-head : goal.bounds-work-head
bounds-work-head c =
    omega (arith, head_place c.requires.0 _ _ c.requires.1 c.mark_at-head.ensures)

pub offset_bounds-work-mark : goal.offset_bounds-work-mark
offset_bounds-work-mark c =
    omega (arith, number_mark_place c.requires.0 _ _ c.number_mark-mark.ensures, c.well_formed.0.0)

pub bounds-work-mark : goal.bounds-work-mark
bounds-work-mark c =
    omega (arith, number_mark_place c.requires.0 _ _ c.number_mark-mark.ensures)

pub offset_bounds-work-head-2 : goal.offset_bounds-work-head-2
offset_bounds-work-head-2 c =
    omega (arith, head_place c.requires.0 _ _ c.requires.1 c.mark_at-head.ensures, c.well_formed.0.0)

pub bounds-work-head-2 : goal.bounds-work-head-2
bounds-work-head-2 c =
    lt-length-set c.args.work.now _ _ (omega (arith, head_place c.requires.0 _ _ c.requires.1 c.mark_at-head.ensures))

pub offset_bounds-work-counter : goal.offset_bounds-work-counter
offset_bounds-work-counter c =
    omega (arith, head_place c.requires.0 _ _ c.requires.2 c.mark_at-counter.ensures, c.well_formed.0.0)

pub bounds-work-counter : goal.bounds-work-counter
bounds-work-counter c =
    lt-length-set (set c.args.work.now _ _) _ _
    (lt-length-set c.args.work.now _ _
    (omega (arith, head_place c.requires.0 _ _ c.requires.2 c.mark_at-counter.ensures)))

pub returns : goal.returns
returns c =
    marks_by _ _ _ _ c.args.work.now _ _ _ _ _ _ _ c.mark_at-head.ensures c.number_mark-mark.ensures c.mark_at-counter.ensures
    refl
