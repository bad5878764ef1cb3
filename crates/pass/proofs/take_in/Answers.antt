-- `pass::take_in` meets its contract: what waits is absorbed and the own column masked, but where more hops wait or the count does not fit.
-- Assumes nothing.
use Rattle.std.proofs.Common.{sym, ◌∙◌, arith}
use Rattle.pass.proofs.PlaceLaws.{taken_more, taken_wide, taken_within}
use Rattle.pass.proofs.take_in.Goals as goal

pub returns-then-work-v : goal.returns-then-work-v
returns-then-work-v c = taken_more _ _ _ _ _ _ _ _ (omega arith)

pub returns-then-wide_at : goal.returns-then-wide_at
returns-then-wide_at c = taken_wide _ _ _ _ _ _ _ _ (omega arith) (sym c.if-wide_at.true ∙ c.wide_at.ensures)

pub returns : goal.returns
returns c =
    taken_within _ _ _ _ _ _ _ _ _ _ _ c.row_at-row.ensures (omega arith) c.absorb.ensures c.mask.ensures
    (sym c.if-wide_at.false ∙ c.wide_at.ensures)
