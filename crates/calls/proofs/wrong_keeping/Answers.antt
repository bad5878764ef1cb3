-- `calls::wrong_keeping` meets its contract: the two tests are those of 14.
-- Assumes nothing.
use native.Mathlib.Omega.{arith}
use mathlib.Core.Path.{sym, ◌∙◌}
use borrow.Author.Tests.{lt-ltb}
use Rattle.calls.proofs.CallLaws.{keeping_less, keeping_more}
use Rattle.calls.proofs.wrong_keeping.Goals as goal

pub returns-then-h-g : goal.returns-then-h-g
returns-then-h-g c = lt-ltb _ _ c.if-h-g.true ∙ sym (keeping_less _ c.if-h-g.true)

pub returns-else-h-g : goal.returns-else-h-g
returns-else-h-g c = keeping_more _ (omega arith)
