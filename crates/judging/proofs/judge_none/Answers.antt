-- `judging::judge_none` meets its contract: the empty list, or another.
-- Assumes nothing.
use mathlib.Core.Path.{sym, ◌∙◌}
use borrow.Author.Tests.{eqb-true, eqb-false}
use Rattle.judging.specs.Judge.{verdict_of}
use Rattle.judging.proofs.JudgeLaws.{none_complete, none_wrong}
use Rattle.judging.proofs.judge_none.Goals as goal

pub returns-then-is_empty : goal.returns-then-is_empty
unfolding verdict_of
returns-then-is_empty c = none_complete _ (eqb-true _ 0 (sym c.is_empty.ensures ∙ c.if-is_empty.true))

pub returns-else-is_empty : goal.returns-else-is_empty
unfolding verdict_of
returns-else-is_empty c = none_wrong _ (eqb-false _ 0 (sym c.is_empty.ensures ∙ c.if-is_empty.false))
