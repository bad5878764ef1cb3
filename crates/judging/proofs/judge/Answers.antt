-- `judging::judge` meets its contract: no entry, no whole ways, or ways.
-- Assumes nothing.
use mathlib.Core.Path.{sym, ◌∙◌}
use native.Mathlib.Omega.{arith}
use borrow.Author.Tests.{eqb-true, eqb-false}
use Rattle.judging.specs.Judge.{verdict_of}
use Rattle.judging.proofs.JudgeLaws.{is_empty, not_whole, is_wrong, whole_ways}
use Rattle.judging.proofs.judge.Goals as goal

pub returns-then-is_empty : goal.returns-then-is_empty
unfolding verdict_of
returns-then-is_empty c = is_empty _ _ _ c.requires _ (eqb-true _ 0 (sym c.is_empty.ensures ∙ c.if-is_empty.true))

pub returns-then-list-q-ne0 : goal.returns-then-list-q-ne0
unfolding verdict_of
returns-then-list-q-ne0 c = is_wrong _ _ _ c.requires _ (not_whole _ _ _ c.requires _ (λ e. omega arith))

pub judge_ways-requires : goal.judge_ways-requires
judge_ways-requires c =
    let some = eqb-false _ 0 (sym c.is_empty.ensures ∙ c.if-is_empty.false) in
    whole_ways _ _ _ c.requires _ (omega (arith, some)) (omega arith)
