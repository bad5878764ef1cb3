-- `stale::take` meets its contract: with walks, or without.
-- Assumes nothing.
use Rattle.std.proofs.Common.{arith}
use Rattle.stale.proofs.WindowSteps.{taken_some, taken_none}
use Rattle.stale.proofs.take.Goals as goal

pub returns-then-l-lt65535 : goal.returns-then-l-lt65535
returns-then-l-lt65535 c = taken_some _ _ _ _ _ _ _ _ _ _ _ c.row_at.ensures c.row_at-then-l-lt65535.ensures (omega arith) c.absorb.ensures

pub returns-else-l-lt65535 : goal.returns-else-l-lt65535
returns-else-l-lt65535 c = taken_none _ _ _ _ _ _ _ _ (omega arith)
