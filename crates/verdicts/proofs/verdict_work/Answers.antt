-- `verdicts::verdict_work` meets its contract: 9, no walk, or the list judged.
-- Assumes nothing.
use mathlib.Core.Path.{refl}
use mathlib.Core.List.{[]}
use native.Mathlib.Omega.{arith}
use Rattle.listing.specs.Answer.{question}
use Rattle.verdicts.proofs.WorkLaws.{pass_asks, judged_too_many, judged_none, judgeable, judged_there}
use Rattle.verdicts.proofs.verdict_work.Goals as goal

pub pass-requires : goal.pass-requires
pass-requires c = pass_asks (question _ _ _ _ _ _ _) [] _ c.requires

pub returns-then-pass : goal.returns-then-pass
returns-then-pass c = judged_too_many _ _ _ c.requires _ _ c.pass.ensures c.if-pass.true

pub returns-then-hops-eq65535 : goal.returns-then-hops-eq65535
returns-then-hops-eq65535 c = judged_none _ _ _ c.requires _ _ c.pass.ensures c.if-pass.false _ refl (omega arith) _ c.judge_none.ensures

pub judge-requires : goal.judge-requires
judge-requires c =
    judgeable (question _ _ _ _ _ _ _) [] _ c.requires _ _ c.pass.ensures c.if-pass.false _ refl (λ e. c.if-hops-eq65535.false e) _ c.complete.ensures

pub returns : goal.returns
returns c =
    judged_there _ _ _ c.requires _ _ c.pass.ensures c.if-pass.false _ refl (λ e. c.if-hops-eq65535.false e) _ c.complete.ensures _ c.judge.ensures
