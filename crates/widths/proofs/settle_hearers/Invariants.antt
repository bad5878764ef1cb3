-- `widths::settle_hearers` meets its contract. The loop's invariant: settling the stations from number i on gives what settling all of them
-- gives.
-- Assumes nothing.
use Rattle.std.proofs.Common.{◌≡◌, ◌-◌, min, ltb}
use Rattle.temporal.specs.Struck.{lacking_record}
use Rattle.pass.specs.Sweep.{station_at}
use Rattle.widths.proofs.CodeLaws.{SettlingKeys}
use Rattle.widths.proofs.settle_hearers.Given as goal

abbrev pub invariant-loop-i : goal.invariant-loop-i
invariant-loop-i l =
    (l.all ≡ ltb l.n (l.end - l.j)) × (l.count ≡ min l.n (l.end - l.j)) ×
    SettlingKeys (station_at (lacking_record l.plan l.out) l.all l.j) l.many l.base l.bounds l.initial.work l.count l.i l.work
