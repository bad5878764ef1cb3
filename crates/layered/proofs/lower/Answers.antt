-- `layered::lower` meets its contract.
-- Assumes nothing.
use Rattle.layered.proofs.RecordLaws.{lowered_low, lowered_high}
use Rattle.layered.proofs.lower.Goals as goal

pub returns-then-u-n : goal.returns-then-u-n
returns-then-u-n c = lowered_low _ _ c.if-u-n.true

pub returns-else-u-n : goal.returns-else-u-n
returns-else-u-n c = lowered_high _ _ c.if-u-n.false
