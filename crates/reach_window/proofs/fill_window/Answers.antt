-- `reach_window::fill_window` meets its contract. The loop's invariant: the records below j are folded in.
-- Assumes nothing.
use native.Mathlib.Omega.{arith}
use mathlib.Core.Path.{refl}
use Rattle.walks.proofs.Accepted.{accepted}
use Rattle.reach_window.proofs.WindowLaws.{windowing_begun, windowing_foldable, windowing_fold, windowing_end}
use Rattle.reach_window.proofs.fill_window.Goals as goal

pub overflow_add-width : goal.overflow_add-width
overflow_add-width c = omega (arith, (accepted _ _ _ c.requires.accepted).slots)

pub loop-j-init : goal.loop-j-init
loop-j-init c = windowing_begun _ _ _ _ _ _ _ _ c.requires _ refl refl c.begin.ensures

pub fold_window-requires : goal.fold_window-requires
fold_window-requires c =
    (windowing_foldable _ _ _ _ _ _ _ _ c.requires _ _ _ c.loop-j.invariant c.loop-j-test.true, c.requires.units.turns)

pub loop-j-preserved : goal.loop-j-preserved
loop-j-preserved c =
    windowing_fold _ _ _ _ _ _ _ _ c.requires _ _ _ c.loop-j.invariant _ c.loop-j-test.true c.fold_window.ensures

pub settle_all-requires : goal.settle_all-requires
settle_all-requires c =
    let w = c.loop-j.invariant in
    rw w.wide w.state.fits

pub returns : goal.returns
returns c =
    windowing_end _ _ _ _ _ _ _ _ c.requires _ _ _ c.loop-j.invariant _ (omega arith) c.begin.ensures c.settle_all.ensures
