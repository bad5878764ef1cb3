-- `loads::busiest` meets its contract: a refusal of the plan, and one for 12 or 14, is passed on, else the rest decides.
-- Assumes nothing.
use mathlib.Core.Path.{sym, ap, ◌∙◌}
use Rattle.plan.specs.Fault.{check_number}
use Rattle.plan.proofs.Answers.{err_is}
use Rattle.calls.proofs.CallLaws.{terms_free_by}
use Rattle.loads.proofs.LoadLaws.{busiest_plan, busiest_terms}
use Rattle.loads.proofs.busiest.Goals as goal

pub returns : goal.returns
returns c =
    busiest_plan _ _ _ _ _ _ _ c.check.ensures c.in-Err.is

pub returns-in_err-terms_call : goal.returns-in_err-terms_call
returns-in_err-terms_call c =
    let ok = sym c.check.ensures ∙ ap check_number c.in_default.is in
    rw (err_is _ _ c.from_residual.ensures.1)
    (busiest_terms _ _ _ _ _ ok _ c.terms_call.ensures _ c.in_err-terms_call.was)

pub busiest_asked-requires : goal.busiest_asked-requires
busiest_asked-requires c =
    (sym c.check.ensures ∙ ap check_number c.in_default.is, terms_free_by _ _ c.terms_call.ensures c.in_ok-terms_call.was)
