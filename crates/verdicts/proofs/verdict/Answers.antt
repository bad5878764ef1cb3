-- `verdicts::verdict` meets its contract: a refusal of the plan or of the call is passed on, any other call does the work.
-- Assumes nothing.
use mathlib.Core.Path.{sym, ◌∙◌}
use Rattle.walks.proofs.Accepted.{accepted}
use Rattle.plan.proofs.Answers.{err_is}
use Rattle.listing.proofs.CallLaws.{accepted_plan}
use Rattle.verdicts.proofs.BeginLaws.{verdict_plan, verdict_ready, verdict_works, verdict_call}
use Rattle.verdicts.proofs.verdict.Goals as goal

pub returns : goal.returns
returns c =
    verdict_plan _ _ _ _ _ _ _ _ _ _ c.check.ensures c.in-Err.is

pub pair_call-requires : goal.pair_call-requires
pair_call-requires c =
    let ok = accepted _ _ _ (accepted_plan _ _ _ _ c.check.ensures c.in_default.is) in
    (ok.stations, ok.slots)

pub returns-in_err-pair_call : goal.returns-in_err-pair_call
returns-in_err-pair_call c =
    rw (err_is _ _ c.from_residual.ensures.1)
    (verdict_call _ _ _ _ _ _ _ _ (accepted_plan _ _ _ _ c.check.ensures c.in_default.is) _ c.pair_call.ensures _ c.in_err-pair_call.was)

pub verdict_cleared-requires : goal.verdict_cleared-requires
verdict_cleared-requires c =
    verdict_ready _ _ _ _ _ _ _ _ (accepted_plan _ _ _ _ c.check.ensures c.in_default.is) _ c.pair_call.ensures c.in_ok-pair_call.was

pub returns-in_default : goal.returns-in_default
returns-in_default c =
    c.verdict_cleared.ensures ∙
    sym (verdict_works _ _ _ _ _ _ _ _ (accepted_plan _ _ _ _ c.check.ensures c.in_default.is) _ c.pair_call.ensures c.in_ok-pair_call.was)
