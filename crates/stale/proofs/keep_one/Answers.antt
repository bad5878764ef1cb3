-- `stale::keep_one` meets its contract: the count is over 2^64 - 1, or the total's does not fit a lane; what is heard is taken into the
-- total, kept and gone; or nothing is heard.
-- Assumes nothing.
use Rattle.std.proofs.Common.{arith}
use Rattle.stale.proofs.WindowSteps.{kept_over, kept_wide, kept_within, kept_none}
use Rattle.stale.proofs.keep_one.Goals as goal
use Rattle.stale.proofs.keep_one.Goals.{then-d-eq0-via-then-d-eq0, then-d-eq0-via-else-d-eq0+then-wide_at}

pub returns-then-d-eq0 : goal.returns-then-d-eq0
returns-then-d-eq0 c =
    elim c.then-d-eq0.branch [
      | then-d-eq0-via-then-d-eq0 w ↦
          kept_over _ _ _ _ _ _ _ _ _ c.part_size-size.ensures (omega arith) (omega arith)
      | then-d-eq0-via-else-d-eq0+then-wide_at w ↦
          kept_wide _ _ _ _ _ _ _ _ _ c.part_size-size.ensures _ (omega arith) (omega arith) w.wide_at.ensures w.if-wide_at.true
    ]

pub returns-else-wide_at : goal.returns-else-wide_at
returns-else-wide_at c =
    kept_within _ _ _ _ _ _ _ _ _ c.part_size-size.ensures _ (omega arith) (omega arith) c.wide_at.ensures _ _ _
    c.if-wide_at.false c.take.ensures c.push.ensures c.empty_entry.ensures

pub returns-else-l-lt65535 : goal.returns-else-l-lt65535
returns-else-l-lt65535 c =
    kept_none _ _ _ _ _ _ _ _ _ c.part_size-size.ensures (omega arith)
