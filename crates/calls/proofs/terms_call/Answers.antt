-- `calls::terms_call` meets its contract: the two tests in turn.
-- Assumes nothing.
use mathlib.Core.Path.{sym, ◌∙◌}
use Rattle.calls.proofs.CallLaws.{terms_turnaround, terms_keeping, terms_free}
use Rattle.calls.proofs.terms_call.Goals as goal

pub returns-then-wrong_turnaround : goal.returns-then-wrong_turnaround
returns-then-wrong_turnaround c = sym (terms_turnaround _ (sym (c.wrong_turnaround.ensures _) ∙ c.if-wrong_turnaround.true))

pub returns-then-wrong_keeping : goal.returns-then-wrong_keeping
returns-then-wrong_keeping c =
    sym (terms_keeping _ (sym (c.wrong_turnaround.ensures _) ∙ c.if-wrong_turnaround.false)
    (sym c.wrong_keeping.ensures ∙ c.if-wrong_keeping.true))

pub returns : goal.returns
returns c =
    sym (terms_free _ (sym (c.wrong_turnaround.ensures _) ∙ c.if-wrong_turnaround.false)
    (sym c.wrong_keeping.ensures ∙ c.if-wrong_keeping.false))
