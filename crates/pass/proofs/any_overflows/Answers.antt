-- `pass::any_overflows` meets its contract. The loop's invariant: the answer from v on is the whole answer.
-- Assumes nothing.
use Rattle.std.proofs.Common.{sym, ◌∙◌, arith}
use Rattle.entries.proofs.SearchLaws.{any_start, any_found, any_pass, any_end}
use Rattle.pass.proofs.any_overflows.Goals as goal

pub loop-v-init : goal.loop-v-init
loop-v-init c = (omega arith, any_start _ _)

pub returns-then-too_many : goal.returns-then-too_many
returns-then-too_many c =
    sym (c.loop-v.invariant.1 ∙
    any_found _ _ _ (omega arith) (sym c.too_many.ensures ∙ c.if-too_many.true))

pub loop-v-preserved : goal.loop-v-preserved
loop-v-preserved c = (
  omega arith,
  c.loop-v.invariant.1 ∙
      any_pass _ _ _ (omega arith) (sym c.too_many.ensures ∙ c.if-too_many.false),
)

pub returns : goal.returns
returns c = sym (c.loop-v.invariant.1 ∙ any_end _ _ _ (omega arith))
