-- `reach::reach` meets its contract: a refusal of the plan or of the terms is passed on, the tests on the way decide 6 and 8.
-- Assumes nothing.
use native.Mathlib.Omega.{arith}
use mathlib.Core.Path.{sym, ◌∙◌, ap}
use borrow.Author.Rules.{rules}
use Rattle.std.proofs.lemmas.Bool.Decides.{nat_tests}
use Rattle.walks.proofs.Accepted.{accepted}
use Rattle.plan.specs.Fault.{check_number}
use Rattle.plan.proofs.Answers.{err_is}
use Rattle.calls.proofs.CallLaws.{terms_allowed}
use Rattle.reach_entries.proofs.PlaceLaws.{few_places}
use Rattle.reach.proofs.CallLaws.{reach_plan, reach_terms, reach_station, reach_short, reach_works}
use Rattle.reach.proofs.reach.Goals as goal

pub returns : goal.returns
returns c =
    reach_plan _ _ _ _ _ _ _ _ c.check.ensures c.in-Err.is

pub returns-in_err-terms_call : goal.returns-in_err-terms_call
returns-in_err-terms_call c =
    rw (err_is _ _ c.from_residual.ensures.1)
    (reach_terms _ _ _ _ _ _ (sym c.check.ensures ∙ ap check_number c.in_default.is) _ _ c.terms_call.ensures c.in_err-terms_call.was)

pub returns-then-n-source : goal.returns-then-n-source
returns-then-n-source c =
    sym (reach_station _ _ _ _ _ _ (sym c.check.ensures ∙ ap check_number c.in_default.is) (sym c.in_ok-terms_call.ensures) c.if-n-source.true)

pub overflow_add-places : goal.overflow_add-places
overflow_add-places c = omega (arith, (accepted _ _ _ (sym c.check.ensures ∙ ap check_number c.in_default.is)).slots)

pub overflow_mul-places : goal.overflow_mul-places
overflow_mul-places c = omega (arith, few_places _ _ _ (sym c.check.ensures ∙ ap check_number c.in_default.is))

pub returns-then-hops-places : goal.returns-then-hops-places
returns-then-hops-places c =
    sym (reach_short _ _ _ _ _ _ (sym c.check.ensures ∙ ap check_number c.in_default.is) (sym c.in_ok-terms_call.ensures) (omega arith)
    (grind (arith, nat_tests, c.then-hops-places.either)))

pub work-requires : goal.work-requires
work-requires c =
    record {
      accepted = (sym c.check.ensures ∙ ap check_number c.in_default.is);
      units = terms_allowed _ (sym c.in_ok-terms_call.ensures);
      source = omega arith;
      fits = search rules;
    }

pub returns-in_default : goal.returns-in_default
returns-in_default c =
    c.work.ensures ∙
    sym (reach_works _ _ _ _ _ _ (sym c.check.ensures ∙ ap check_number c.in_default.is) (sym c.in_ok-terms_call.ensures) (omega arith)
    (grind (arith, nat_tests)))
