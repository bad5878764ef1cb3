-- `tallies::tally_source` meets its contract. The loop's invariant: the stations below low are done (Blocking), cause 9 does not hold where it is
-- said to be known, and the split is one that can be had. The measure is the number of stations left, the splits, and the pass without rows.
-- Assumes nothing.
use Prim.Native.Nat.{◌+◌, ◌-◌, ◌*◌, ◌≤◌}
use mathlib.Core.Path.{◌≡◌}
use mathlib.Core.Bool.{true, false, cond}
use Rattle.plan.specs.Setting.{terms_of, plan_in}
use Rattle.temporal.specs.Cause.{is_too_many}
use Rattle.temporal.specs.Struck.{lacking_record}
use Rattle.tallies.proofs.BlockLaws.{Blocking}
use Rattle.tallies.proofs.tally_source.Given as goal

abbrev pub invariant-loop-low : goal.invariant-loop-low
invariant-loop-low l =
    (l.split ≤ 3) × (l.known ≡ true → is_too_many (plan_in (lacking_record l.plan l.out) l.setting) l.source ≡ false) ×
    Blocking (lacking_record l.plan l.out) l.setting.stations l.setting.slots (terms_of l.setting) l.base l.source l.initial.work l.low l.work

abbrev pub decreases-loop-low : goal.decreases-loop-low
decreases-loop-low l = 4 * (l.setting.stations - l.low) + l.split + cond l.known 0 1
