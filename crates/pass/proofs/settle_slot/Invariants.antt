-- `pass::settle_slot` meets its contract. The loop's invariant: settling the stations from number i on gives what settling all of them gives.
-- Assumes nothing.
use Rattle.std.proofs.Common.{◌≡◌, ◌-◌, ◌*◌, ◌^◌, min, ltb}
use Rattle.temporal.specs.Struck.{lacking_record}
use Rattle.pass.specs.Sweep.{station_at}
use Rattle.pass.specs.Column.{column_of, lanes_by, split_of}
use Rattle.pass.proofs.PlaceLaws.{SettlingArea}
use Rattle.pass.proofs.settle_slot.Given as goal

abbrev pub invariant-loop-i : goal.invariant-loop-i
invariant-loop-i l =
    (l.all ≡ ltb l.n (l.end - l.j)) × (l.many ≡ min l.n (l.end - l.j)) ×
    SettlingArea (station_at (lacking_record l.plan l.out) l.all l.j) l.known (lanes_by (split_of l.columns)) l.n l.block l.base l.source
    (column_of l.columns l.set (l.block * 2 ^ split_of l.columns)) l.initial.work 0 l.many l.i l.work
