-- `verdicts::verdict_cleared` meets its contract: the work, cleared after it, leaves what is defined.
-- Assumes nothing.
use native.Mathlib.Omega.{arith}
use Rattle.walks.proofs.Accepted.{accepted}
use Rattle.listing.specs.Answer.{question}
use Rattle.verdicts.proofs.WorkLaws.{work_cleared}
use Rattle.verdicts.proofs.verdict_cleared.Goals as goal

pub overflow_add-question : goal.overflow_add-question
overflow_add-question c = omega (arith, (accepted _ _ _ c.requires.asked.accepted).slots)

pub returns : goal.returns
returns c = work_cleared (question _ _ _ _ _ _ _) _ _ _ _ _ c.verdict_work-answer.ensures c.clear.ensures
