-- `widths::widths_of` meets its contract. The loop's invariant: in slot u, at position j, each column whose bound is small has the keys of the pass
-- with empty rows for its source (Running). The measure is the number of slots and of records left.
-- Assumes nothing.
use Rattle.std.proofs.Common.{◌≡◌, ◌+◌, ◌-◌, ◌*◌}
use Rattle.temporal.specs.Plan.{units}
use Rattle.temporal.specs.Bytes.{records}
use Rattle.temporal.specs.Struck.{lacking_record}
use Rattle.widths.proofs.RunLaws.{Running}
use Rattle.widths.proofs.widths_of.Given as goal

abbrev pub invariant-loop-u : goal.invariant-loop-u
invariant-loop-u l =
    (l.bounds ≡ (1 + l.q) * l.n) × Running (lacking_record l.plan l.out) l.n l.t (units l.g l.h) l.first l.many l.q l.initial.work l.base l.u l.j l.i l.work

abbrev pub decreases-loop-u : goal.decreases-loop-u
decreases-loop-u l =
    (l.t + l.q - l.u) + (records (lacking_record l.plan l.out) - l.j)
