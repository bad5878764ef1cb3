-- `stale::send_records` meets its contract. The loop's invariant: sending from record i on gives what sending for all gives.
-- Assumes nothing.
use Rattle.std.proofs.Common.{arith}
use Rattle.stale.proofs.WindowSteps.{sending_more, sending_all}
use Rattle.stale.proofs.send_records.Goals as goal

pub loop-i-preserved : goal.loop-i-preserved
loop-i-preserved c = sending_more _ _ _ _ _ _ _ _ _ _ _ (omega arith) c.loop-i.invariant c.send_record.auto.work c.send_record.ensures

pub returns : goal.returns
returns c = sending_all _ _ _ _ _ _ _ _ _ _ (omega arith) c.loop-i.invariant
