-- `tallies::add_row` meets its contract. The loop's invariant: destination z is added to the stations of the first e entries
-- (Entering).
-- Assumes nothing.
use native.Mathlib.Omega.{arith}
use Rattle.tallies.proofs.LoopLaws.{row_self, row_unreached, row_count, entering_none, entering_workable, entering_more}
use Rattle.tallies.proofs.LoopLaws.{entering_length, entering_all}
use Rattle.tallies.proofs.add_row.Goals as goal

pub returns-then-z-source : goal.returns-then-z-source
returns-then-z-source c = row_self _ _ _ _ _ _ _ (omega arith)

pub bounds-work-z : goal.bounds-work-z
bounds-work-z c = let k = c.requires.0.working.room in omega (arith, k.area, k.fits)

pub returns-then-work-z-ge65535 : goal.returns-then-work-z-ge65535
returns-then-work-z-ge65535 c = row_unreached _ _ _ _ _ _ _ (omega arith) (omega arith)

pub full_entry-all-requires : goal.full_entry-all-requires
full_entry-all-requires c =
    row_count _ _ _ _ _ _ _ c.requires.0 (omega arith) (omega arith)

pub loop-e-init : goal.loop-e-init
loop-e-init c = entering_none _ _ _ _ _ _ _

pub add_entry-requires : goal.add_entry-requires
add_entry-requires c =
    entering_workable _ _ _ _ _ _ _ _ _ c.loop-e.invariant c.requires.0 _ (omega arith) (omega arith) (omega arith) (omega arith)
    c.full_entry-all.ensures

pub loop-e-preserved : goal.loop-e-preserved
loop-e-preserved c =
    entering_more _ _ _ _ _ _ _ _ _ c.loop-e.invariant c.requires.0 _ (omega arith) c.add_entry.ensures

pub shape_of-work : goal.shape_of-work
shape_of-work c =
    entering_length _ _ _ _ _ _ _ _ _ c.loop-e.invariant c.requires.0

pub returns : goal.returns
returns c =
    entering_all _ _ _ _ _ _ _ _ _ c.loop-e.invariant c.requires.0 (omega arith)
