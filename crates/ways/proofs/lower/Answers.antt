-- `ways::lower` meets its contract: the entry is written where one more than the other is less.
-- Assumes nothing.
use Rattle.ways.proofs.ColumnLaws.{lowered_less, lowered_more}
use Rattle.ways.proofs.lower.Goals as goal

pub returns-then-h-work : goal.returns-then-h-work
returns-then-h-work c = lowered_less _ _ _ c.if-h-work.true

pub returns-else-h-work : goal.returns-else-h-work
returns-else-h-work c = lowered_more _ _ _ c.if-h-work.false
