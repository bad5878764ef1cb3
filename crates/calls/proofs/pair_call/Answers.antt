-- `calls::pair_call` meets its contract: a refusal for 12 or 14 is passed on, else the others decide.
-- Assumes nothing.
use mathlib.Core.Path.{◌∙◌}
use Rattle.plan.proofs.Answers.{err_is}
use Rattle.calls.proofs.CallLaws.{call_refused, call_passed}
use Rattle.calls.proofs.pair_call.Goals as goal

pub returns-in_err-terms_call : goal.returns-in_err-terms_call
returns-in_err-terms_call c =
    rw (err_is _ _ c.from_residual.ensures.1)
    (call_refused _ _ _ _ _ _ _ _ _ c.terms_call.ensures _ c.in_err-terms_call.was)

pub returns : goal.returns
returns c =
    c.stations_call.ensures ∙
    call_passed _ _ _ _ _ _ _ _ _ c.terms_call.ensures c.in_ok-terms_call.was
