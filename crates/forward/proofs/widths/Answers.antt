-- `forward::widths` meets its contract: where nothing goes stale the pass without rows, else nothing.
-- Assumes nothing.
use native.Mathlib.Omega.{arith}
use Rattle.forward.proofs.WidthLaws.{widths_ready, widths_known, widths_unknown}
use Rattle.forward.proofs.widths.Goals as goal

pub widths_of-requires : goal.widths_of-requires
widths_of-requires c = widths_ready _ _ _ _ _ _ _ c.requires (omega arith)

pub returns-then-t-h : goal.returns-then-t-h
returns-then-t-h c =
    widths_known _ _ _ _ _ _ _ c.requires (omega arith) _ _ c.widths_of.ensures

pub returns-else-t-h : goal.returns-else-t-h
returns-else-t-h c = widths_unknown _ _ _ _ _ _ _ c.requires
