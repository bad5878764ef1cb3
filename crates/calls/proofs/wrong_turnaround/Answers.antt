-- `calls::wrong_turnaround` meets its contract: the two tests are those of 12.
-- Assumes nothing.
use mathlib.Core.Path.{sym, ◌∙◌}
use borrow.Author.Tests.{eq-eqb}
use Rattle.calls.proofs.CallLaws.{terms_none, terms_some}
use Rattle.calls.proofs.wrong_turnaround.Goals as goal

pub returns-then-g-eq0 : goal.returns-then-g-eq0
returns-then-g-eq0 c h = eq-eqb _ _ c.if-g-eq0.true ∙ sym (terms_none _ c.if-g-eq0.true)

pub returns-else-g-eq0 : goal.returns-else-g-eq0
returns-else-g-eq0 c h = terms_some _ c.if-g-eq0.false
