-- `drawing::figures_of` meets its contract: nothing without pairs, else the shares of the load and of its sum with the pairs, which is
-- below 2^50.
-- Assumes nothing.
use Rattle.drawing.proofs.FigureLaws.{carried_idle, carried_some}
use Rattle.drawing.proofs.figures_of.Goals as goal

pub returns-then-pairs-eq0 : goal.returns-then-pairs-eq0
returns-then-pairs-eq0 c = carried_idle _ _ c.if-pairs-eq0.true

pub returns : goal.returns
returns c = carried_some _ _ _ _ c.if-pairs-eq0.false c.share_value.ensures c.share_value-2.ensures
