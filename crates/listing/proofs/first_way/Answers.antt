-- `listing::first_way` meets its contract: a refusal of the plan or of the call is passed on, any other call does the work.
-- Assumes nothing.
use mathlib.Core.Path.{sym, ◌∙◌}
use Rattle.temporal.specs.Cursor.{first_way}
use Rattle.walks.proofs.Accepted.{accepted}
use Rattle.plan.proofs.Answers.{err_is}
use Rattle.listing.proofs.CallLaws.{accepted_plan, way_plan, way_ready, way_works, way_call}
use Rattle.listing.proofs.first_way.Goals as goal

pub returns : goal.returns
returns c =
    way_plan _ _ _ _ _ _ c.check.ensures c.in-Err.is

pub pair_call-requires : goal.pair_call-requires
pair_call-requires c =
    let ok = accepted _ _ _ (accepted_plan _ _ _ _ c.check.ensures c.in_default.is) in
    (ok.stations, ok.slots)

pub returns-in_err-pair_call : goal.returns-in_err-pair_call
returns-in_err-pair_call c =
    rw (err_is _ _ c.from_residual.ensures.1)
    (way_call _ _ _ _ (accepted_plan _ _ _ _ c.check.ensures c.in_default.is) _ _ c.pair_call.ensures c.in_err-pair_call.was)

pub first_cleared-requires : goal.first_cleared-requires
first_cleared-requires c =
    way_ready first_way _ _ _ (accepted_plan _ _ _ _ c.check.ensures c.in_default.is) _ c.pair_call.ensures c.in_ok-pair_call.was

pub returns-in_default : goal.returns-in_default
returns-in_default c =
    c.first_cleared.ensures ∙
    sym (way_works _ _ _ _ (accepted_plan _ _ _ _ c.check.ensures c.in_default.is) _ c.pair_call.ensures c.in_ok-pair_call.was)
