-- `ways::complete_window` meets its contract. The loop's invariant: every entry holds what starts with the records from j on.
-- Assumes nothing.
use native.Mathlib.Omega.{arith}
use mathlib.Core.Path.{refl, ◌∙◌}
use Rattle.walks.proofs.Accepted.{accepted}
use Rattle.ways.proofs.WindowLaws.{windowing_begun, windowing_ready, windowing_fold, windowing_end}
use Rattle.ways.proofs.complete_window.Goals as goal

pub overflow_add-width : goal.overflow_add-width
overflow_add-width c = omega (arith, (accepted _ _ _ c.requires.accepted).slots)

pub begin_window-requires : goal.begin_window-requires
begin_window-requires c = (c.requires.fits, c.requires.destination)

pub loop-j-init : goal.loop-j-init
loop-j-init c = windowing_begun _ _ _ _ _ _ c.requires _ _ c.begin_window.ensures refl

pub fold_window-requires : goal.fold_window-requires
fold_window-requires c = windowing_ready _ _ _ _ _ _ _ _ c.loop-j.invariant _ (omega arith)

pub loop-j-preserved : goal.loop-j-preserved
loop-j-preserved c = windowing_fold _ _ _ _ _ _ _ _ c.loop-j.invariant _ (omega arith) _ c.fold_window.ensures

pub shape_of-work : goal.shape_of-work
shape_of-work c = c.loop-j.invariant.same ∙ c.begin_window.auto.work

pub returns : goal.returns
returns c = windowing_end _ _ _ _ _ _ c.requires _ _ _ c.begin_window.ensures c.loop-j.invariant c.loop-j-test.false
