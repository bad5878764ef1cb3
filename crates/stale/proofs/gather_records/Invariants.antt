-- `stale::gather_records` meets its contract. The loop's invariant: gathering for the records from i on gives what gathering for all gives.
-- Assumes nothing.
use Rattle.std.proofs.Common.{◌*◌, ◌^◌}
use Rattle.temporal.specs.Plan.{units}
use Rattle.temporal.specs.Struck.{lacking_record}
use Rattle.pass.specs.Column.{column_of, lanes_by, split_of}
use Rattle.stale.proofs.WindowSteps.{GatheringRecords}
use Rattle.stale.proofs.gather_records.Given as goal

abbrev pub invariant-loop-i : goal.invariant-loop-i
invariant-loop-i l =
    GatheringRecords (lacking_record l.plan l.out) (lanes_by (split_of l.columns)) l.n l.block l.depth (units l.g l.h) l.source
    (column_of l.columns l.set (l.block * 2 ^ split_of l.columns)) l.u l.j l.end l.initial.work l.last l.i l.work
