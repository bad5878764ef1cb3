-- `stale::gather_records` meets its contract. The loop's invariant: gathering for the records from i on gives what gathering for all gives.
-- Assumes nothing.
use Rattle.std.proofs.Common.{arith}
use Rattle.stale.proofs.WindowSteps.{windows_stop, windows_more, windows_all}
use Rattle.stale.proofs.gather_records.Goals as goal

pub returns-in_default : goal.returns-in_default
returns-in_default c =
    windows_stop _ _ _ _ _ _ _ _ _ _ _ _ _ _ _ _ _ (omega arith) c.loop-i.invariant c.gather_next.ensures c.in_default.is

pub loop-i-preserved : goal.loop-i-preserved
loop-i-preserved c =
    windows_more _ _ _ _ _ _ _ _ _ _ _ _ _ _ _ _ _ (omega arith) c.loop-i.invariant c.gather_next.ensures _ c.in-Some.is
    c.gather_next.auto.work

pub returns : goal.returns
returns c = windows_all _ _ _ _ _ _ _ _ _ _ _ _ _ _ _ (omega arith) c.loop-i.invariant
