-- `stale::pass_window` meets its contract. The loop's invariant: before slot u, at position j, the work area holds the walks from the
-- source by the slot before, and those that are kept (Windowing).
-- Assumes nothing.
use Rattle.std.proofs.Common.{◌*◌, ◌^◌}
use Rattle.temporal.specs.Plan.{units}
use Rattle.temporal.specs.Struck.{lacking_record}
use Rattle.pass.specs.Column.{column_of, lanes_by, split_of}
use Rattle.stale.proofs.WindowPass.{Windowing}
use Rattle.stale.proofs.pass_window.Given as goal

abbrev pub invariant-loop-u : goal.invariant-loop-u
invariant-loop-u l =
    Windowing (lacking_record l.plan l.out) l.n l.t (units l.g l.h) l.source (lanes_by (split_of l.columns))
    (column_of l.columns l.set (l.block * 2 ^ split_of l.columns)) l.block l.depth l.initial.work l.u l.j l.work
