-- `account::account_within` meets its contract: the number of a refusal, or the account from the tables that loads leaves.
-- Assumes nothing.
use mathlib.Core.Path.{sym, ap, ◌∙◌}
use native.Mathlib.Omega.{arith}
use Rattle.plan.specs.Fault.{answer_number}
use Rattle.plan.proofs.Answers.{fault-number-within}
use Rattle.report.proofs.ReportLaws.{refusal_room}
use Rattle.account.proofs.AccountedLaws.{account_text_law, accounted_refused, accounted_loaded, loaded_for}
use Rattle.account.proofs.account_within.Goals as goal

pub account_loaded-requires : goal.account_loaded-requires
account_loaded-requires c =
    loaded_for _ _ _ _ _ _ _ _ _ _ _ _ c.requires c.loads-answer.result _ _ _ c.loads-answer.ensures _
    c.with_station.ensures (ap answer_number c.in-Ok.is) c.loads-answer.auto.work

pub returns-in-Ok : goal.returns-in-Ok
returns-in-Ok c =
    account_text_law _ _ _ _ _ _ _ _ c.account_loaded.ensures
    (accounted_loaded _ _ _ _ _ _ _ _ _ _ _ _ c.requires c.loads-answer.result _ _ _ c.loads-answer.ensures _
    c.with_station.ensures (ap answer_number c.in-Ok.is))

pub put_refusal-requires : goal.put_refusal-requires
put_refusal-requires c =
    refusal_room _ _ c.requires.within.out_size

pub returns-in-Err : goal.returns-in-Err
returns-in-Err c =
    account_text_law _ _ _ _ _ _ _ _ c.put_refusal.ensures
    (accounted_refused _ _ _ _ _ _ _ _ _ _ _ _ c.requires c.loads-answer.result _ _ _ c.loads-answer.ensures _
    (c.fault_number.ensures ∙ sym (ap answer_number c.in-Err.is) ∙ c.with_station.ensures)
    (λ none. omega (arith, c.fault_number.ensures, fault-number-within c.in-Err.fault)))
