-- `pass::pass_columns` meets its contract. The loop's invariant: in slot u, at position j, the work area holds the walks from the
-- source by the slot q before, the records from i on are past that slot, and the station until is not reached by it (Passing). The
-- measure is the number of slots and of records left.
-- Assumes nothing.
use Rattle.std.proofs.Common.{◌+◌, ◌-◌, ◌*◌, ◌^◌}
use Rattle.temporal.specs.Plan.{units}
use Rattle.temporal.specs.Bytes.{records}
use Rattle.temporal.specs.Struck.{lacking_record}
use Rattle.pass.specs.Column.{column_of, lanes_by, split_of}
use Rattle.pass.proofs.PassLaws.{Passing}
use Rattle.pass.proofs.pass_columns.Given as goal

abbrev pub invariant-loop-u : goal.invariant-loop-u
invariant-loop-u l =
    Passing (lacking_record l.plan l.out) l.n l.t (units l.g l.h) l.source l.until l.known (lanes_by (split_of l.columns))
    (column_of l.columns l.set (l.block * 2 ^ split_of l.columns)) l.block l.q l.initial.work l.base l.u l.j l.i l.work

abbrev pub decreases-loop-u : goal.decreases-loop-u
decreases-loop-u l =
    (l.t + l.q - l.u) + (records (lacking_record l.plan l.out) - l.j)
