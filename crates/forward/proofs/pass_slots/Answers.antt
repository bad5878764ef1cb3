-- `forward::pass_slots` meets its contract: the pass that fits the units' terms and the number of slots.
-- Assumes nothing.
use native.Mathlib.Omega.{arith}
use Rattle.forward.proofs.UseLaws.{kept_ready, kept_passed, window_ready, window_passed}
use Rattle.forward.proofs.pass_slots.Goals as goal

pub pass_columns-requires : goal.pass_columns-requires
pass_columns-requires c = (kept_ready _ _ _ _ _ _ _ _ _ c.requires.0 (omega arith), c.requires.1, c.requires.2)

pub returns-then-t-h : goal.returns-then-t-h
returns-then-t-h c = kept_passed _ _ _ _ _ _ _ _ _ c.requires.0 (omega arith) _ _ _ _ c.pass_columns.ensures

pub pass_window-requires : goal.pass_window-requires
pass_window-requires c =
    (window_ready _ _ _ _ _ _ _ _ _ c.requires.0 (omega arith), c.requires.1)

pub returns-else-t-h : goal.returns-else-t-h
returns-else-t-h c =
    window_passed _ _ _ _ _ _ _ _ _ c.requires.0 (omega arith) _ _ _ _
    c.pass_window.ensures
