-- `sets::through_set` meets its contract: a refusal of the plan or of the call is passed on, the test of the bytes decides 11, and a call
-- without a cause goes on.
-- Assumes nothing.
use mathlib.Core.Path.{sym, ◌∙◌, ap}
use Rattle.walks.proofs.Accepted.{accepted}
use Rattle.plan.specs.Fault.{check_number}
use Rattle.plan.proofs.Answers.{err_is}
use Rattle.sets.proofs.SetCallLaws.{set_plan, set_call, set_asked, set_byte, set_works}
use Rattle.sets.proofs.through_set.Goals as goal

pub returns : goal.returns
returns c =
    set_plan _ _ _ _ _ _ _ _ _ _ c.check.ensures c.in-Err.is

pub pair_call-requires : goal.pair_call-requires
pair_call-requires c =
    let a = accepted _ _ _ (sym c.check.ensures ∙ ap check_number c.in_default.is) in
    (a.stations, a.slots)

pub returns-in_err-pair_call : goal.returns-in_err-pair_call
returns-in_err-pair_call c =
    rw (err_is _ _ c.from_residual.ensures.1)
    (set_call _ _ _ _ _ _ _ _ (sym c.check.ensures ∙ ap check_number c.in_default.is) _ c.pair_call.ensures _ c.in_err-pair_call.was)

pub wrong_set-requires : goal.wrong_set-requires
wrong_set-requires c =
    (set_asked _ _ _ _ _ _ _ _ (sym c.check.ensures ∙ ap check_number c.in_default.is) _ c.pair_call.ensures c.in_ok-pair_call.was).set_room

pub returns-then-wrong_set : goal.returns-then-wrong_set
returns-then-wrong_set c =
    set_byte _ _ _ _ _ _ _ _
    (set_asked _ _ _ _ _ _ _ _ (sym c.check.ensures ∙ ap check_number c.in_default.is) _ c.pair_call.ensures c.in_ok-pair_call.was)
    (sym c.wrong_set.ensures ∙ c.if-wrong_set.true)

pub set_work-requires : goal.set_work-requires
set_work-requires c =
    set_asked _ _ _ _ _ _ _ _ (sym c.check.ensures ∙ ap check_number c.in_default.is) _ c.pair_call.ensures c.in_ok-pair_call.was

pub returns-in_default : goal.returns-in_default
returns-in_default c =
    c.set_work.ensures ∙
    sym (set_works _ _ _ _ _ _ _ _
    (set_asked _ _ _ _ _ _ _ _ (sym c.check.ensures ∙ ap check_number c.in_default.is) _ c.pair_call.ensures c.in_ok-pair_call.was)
    (sym c.wrong_set.ensures ∙ c.if-wrong_set.false))
