-- `stale::keep_records` meets its contract. The loop's invariant: keeping from record i on gives what keeping for all gives.
-- Assumes nothing.
use Rattle.std.proofs.Common.{arith}
use Rattle.stale.proofs.WindowSteps.{keeping_stop, keeping_more, keeping_all}
use Rattle.stale.proofs.keep_records.Goals as goal

pub returns-then-keep_record : goal.returns-then-keep_record
returns-then-keep_record c =
    keeping_stop _ _ _ _ _ _ _ _ _ _ _ _ _ _ (omega arith) c.loop-i.invariant c.keep_record.ensures
    c.if-keep_record.true

pub loop-i-preserved : goal.loop-i-preserved
loop-i-preserved c =
    keeping_more _ _ _ _ _ _ _ _ _ _ _ _ _ _ (omega arith) c.loop-i.invariant c.keep_record.ensures c.if-keep_record.false
    c.keep_record.auto.work

pub returns : goal.returns
returns c = keeping_all _ _ _ _ _ _ _ _ _ _ _ _ (omega arith) c.loop-i.invariant
