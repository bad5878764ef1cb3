-- `tallies::add_entry` meets its contract. The loop's invariant: the stations of the entry before j are added (Running).
-- Assumes nothing.
use native.Mathlib.Omega.{arith}
use Rattle.tallies.proofs.LaneLaws.{entry_small}
use Rattle.tallies.proofs.LoopLaws.{entry_place, entry_skipped, running_none, running_addable, running_more, running_length}
use Rattle.tallies.proofs.LoopLaws.{running_all}
use Rattle.tallies.proofs.add_entry.Goals as goal

pub bounds-work-n : goal.bounds-work-n
bounds-work-n c = entry_place _ _ _ _ _ _ _ _ _ c.requires

pub returns-then-work-n : goal.returns-then-work-n
returns-then-work-n c = entry_skipped _ _ _ _ _ _ _ _ _ c.requires (omega arith)

pub columns_of-requires : goal.columns_of-requires
columns_of-requires c = (c.requires.working.few, omega (arith, entry_small c.requires (omega (arith, c.well_formed.0))))

pub columns_of-j-requires : goal.columns_of-j-requires
columns_of-j-requires c =
    (c.requires.working.few, omega (arith, entry_small c.requires (omega (arith, c.well_formed.0))))

pub loop-j-init : goal.loop-j-init
loop-j-init c =
    running_none _ _ _ _ _ _ _ _ _ c.requires _ _ (rw c.columns_of.ensures at c.min-end.ensures) c.columns_of-j.ensures

pub add_pair-requires : goal.add_pair-requires
add_pair-requires c =
    running_addable _ _ _ _ _ _ _ _ _ c.requires _ _ _ c.loop-j.invariant (omega arith)

pub loop-j-preserved : goal.loop-j-preserved
loop-j-preserved c =
    rw c.add_pair.ensures (running_more _ _ _ _ _ _ _ _ _ c.requires _ _ _ c.loop-j.invariant (omega arith))

pub shape_of-work : goal.shape_of-work
shape_of-work c =
    running_length _ _ _ _ _ _ _ _ _ c.requires _ _ _ c.loop-j.invariant

pub returns : goal.returns
returns c =
    running_all _ _ _ _ _ _ _ _ _ c.requires _ _ _ c.loop-j.invariant (omega arith)
