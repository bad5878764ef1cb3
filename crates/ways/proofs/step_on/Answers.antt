-- `ways::step_on` meets its contract: at each return the tests on the way decide the step.
-- Assumes nothing.
use native.Mathlib.Omega.{arith}
use Rattle.ways.specs.Found.{end_of}
use Rattle.ways.proofs.CodeLaws.{step_past, step_waits, step_from_sender, step_from_none}
use Rattle.ways.proofs.step_on.Goals as goal
use Rattle.ways.proofs.step_on.Goals.{then-x-c-via-then-x-c, then-x-c-via-else-x-c+then-not-may_follow}

pub returns-then-plan-i : goal.returns-then-plan-i
unfolding end_of
returns-then-plan-i c = λ n t. step_past _ n t _ _ _ c.if-plan-i.true

pub returns-then-x-c : goal.returns-then-x-c
unfolding end_of
returns-then-x-c c =
    elim c.then-x-c.branch [
      | then-x-c-via-then-x-c w ↦ λ n t. step_from_none _ n t _ _ _ _ c.contact_at-c.ensures (omega arith) w.if-x-c.true
      | then-x-c-via-else-x-c+then-not-may_follow w ↦ λ n t.
          step_waits _ n t _ _ _ _ c.contact_at-c.ensures (omega arith) _ w.may_follow.ensures w.if-not-may_follow.true
    ]

pub returns : goal.returns
unfolding end_of
returns c = λ n t. step_from_sender _ n t _ _ _ _ c.contact_at-c.ensures (omega arith) _ c.may_follow.ensures c.if-not-may_follow.false c.if-x-c.false
