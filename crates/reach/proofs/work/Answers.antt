-- `reach::work` meets its contract: filled tables without an overflow are the answer, and with one they are cleared.
-- Assumes nothing.
use native.Mathlib.Omega.{arith}
use mathlib.Core.Path.{sym, ◌∙◌}
use Rattle.walks.proofs.Accepted.{accepted}
use Rattle.reach.proofs.ReachedLaws.{reached_filled, reached_cleared}
use Rattle.reach.proofs.work.Goals as goal

pub overflow_add-t : goal.overflow_add-t
overflow_add-t c = omega (arith, (accepted _ _ _ c.requires.accepted).slots)

pub overflow_add-t-then-overflowed : goal.overflow_add-t-then-overflowed
overflow_add-t-then-overflowed c = omega (arith, (accepted _ _ _ c.requires.accepted).slots)

pub returns-then-overflowed : goal.returns-then-overflowed
returns-then-overflowed c =
    reached_cleared _ _ _ _ _ c.requires.accepted _ _ _ c.fill.ensures
    (sym c.overflowed.ensures ∙ c.if-overflowed.true) c.clear.ensures

pub returns : goal.returns
returns c =
    reached_filled _ _ _ _ _ c.requires.accepted _ _ c.requires.fits c.fill.ensures
    (sym c.overflowed.ensures ∙ c.if-overflowed.false)
