-- `pair::pair` meets its contract: a refusal of the plan, and one of the call, is passed on, a free call goes on to the work.
-- Assumes nothing.
use mathlib.Core.Path.{sym, ap, ◌∙◌}
use Rattle.walks.proofs.Accepted.{accepted}
use Rattle.plan.specs.Fault.{check_number}
use Rattle.plan.proofs.Answers.{err_is}
use Rattle.pair.proofs.BeginLaws.{call_free}
use Rattle.pair.proofs.PairLaws.{pair_plan, pair_call, pair_works}
use Rattle.pair.proofs.pair.Goals as goal

pub returns : goal.returns
returns c =
    pair_plan _ _ _ _ _ _ _ _ _ _ c.check.ensures c.in-Err.is

pub pair_call-requires : goal.pair_call-requires
pair_call-requires c =
    let a = accepted _ _ _ (sym c.check.ensures ∙ ap check_number c.in_default.is) in
    (a.stations, a.slots)

pub returns-in_err-pair_call : goal.returns-in_err-pair_call
returns-in_err-pair_call c =
    let ok = sym c.check.ensures ∙ ap check_number c.in_default.is in
    rw (err_is _ _ c.from_residual.ensures.1)
    (pair_call _ _ _ _ _ _ _ _ ok _ c.pair_call.ensures _ c.in_err-pair_call.was)

pub pair_work-requires : goal.pair_work-requires
pair_work-requires c =
    let ok = sym c.check.ensures ∙ ap check_number c.in_default.is in
    call_free _ _ _ _ _ _ _ _ ok _ c.pair_call.ensures c.in_ok-pair_call.was

pub returns-in_default : goal.returns-in_default
returns-in_default c =
    let ok = sym c.check.ensures ∙ ap check_number c.in_default.is in
    c.pair_work.ensures ∙ sym (pair_works _ _ _ _ _ _ _ _ ok _ c.pair_call.ensures c.in_ok-pair_call.was)
