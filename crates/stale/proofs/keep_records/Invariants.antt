-- `stale::keep_records` meets its contract. The loop's invariant: keeping from record i on gives what keeping for all gives.
-- Assumes nothing.
use Rattle.temporal.specs.Struck.{lacking_record}
use Rattle.pass.specs.Column.{lanes_by, split_of}
use Rattle.stale.proofs.WindowSteps.{Keeping}
use Rattle.stale.proofs.keep_records.Given as goal

abbrev pub invariant-loop-i : goal.invariant-loop-i
invariant-loop-i l =
    Keeping (lacking_record l.plan l.out) (lanes_by (split_of l.columns)) l.n l.block l.depth l.source l.u l.j l.end l.initial.work l.i l.work
