-- `widths::widen_bounds` meets its contract.
-- Assumes nothing.
use Rattle.std.proofs.Common.{rules}
use Rattle.widths.specs.Key.{widened}
use Rattle.widths.proofs.widen_bounds.Goals as goal

pub returns : goal.returns
unfolding widened
returns c = c.combine_rows.ensures widened (λ a b r e. search rules)
