-- `sets::set_work` meets its contract: too many clears the work area; else the entry is read before it is cleared.
-- Assumes nothing.
use native.Mathlib.Omega.{arith}
use Rattle.walks.proofs.Accepted.{accepted}
use Rattle.sets.proofs.SetCallLaws.{pass_ready, readable, counted_refused, counted_found}
use Rattle.sets.proofs.set_work.Goals as goal

pub set_pass-requires : goal.set_pass-requires
set_pass-requires c = pass_ready _ _ _ _ _ _ _ _ c.requires

pub overflow_add-t : goal.overflow_add-t
overflow_add-t c = omega (arith, (accepted _ _ _ c.requires.accepted).slots)

pub returns-then-set_pass : goal.returns-then-set_pass
returns-then-set_pass c =
    counted_refused _ _ _ _ _ _ _ _ c.requires _ _ c.set_pass.ensures
    c.if-set_pass.true _ c.clear.ensures

pub touched_at-count-requires : goal.touched_at-count-requires
touched_at-count-requires c =
    readable _ _ _ _ _ _ _ _ c.requires _ _ c.set_pass.ensures c.if-set_pass.false

pub overflow_add-t-2 : goal.overflow_add-t-2
overflow_add-t-2 c = omega (arith, (accepted _ _ _ c.requires.accepted).slots)

pub returns : goal.returns
returns c =
    counted_found _ _ _ _ _ _ _ _ c.requires _ _ c.set_pass.ensures
    c.if-set_pass.false _ _ c.touched_at-count.ensures c.clear-2.ensures
