-- `stale::send_records` meets its contract. The loop's invariant: sending from record i on gives what sending for all gives.
-- Assumes nothing.
use Rattle.temporal.specs.Struck.{lacking_record}
use Rattle.stale.proofs.WindowSteps.{SendingRecords}
use Rattle.stale.proofs.send_records.Given as goal

abbrev pub invariant-loop-i : goal.invariant-loop-i
invariant-loop-i l = SendingRecords (lacking_record l.plan l.out) l.n l.block l.from l.to l.j l.end l.initial.work l.i l.work
