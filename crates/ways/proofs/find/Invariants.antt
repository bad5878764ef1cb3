-- `ways::find` meets its contract. The loop's invariant: what the search finds from i on is what it finds. The measure is the
-- number of positions left.
-- Assumes nothing.
use Prim.Native.Nat.{◌+◌, ◌-◌}
use mathlib.Core.Path.{◌≡◌}
use Rattle.ways.specs.Found.{spot_of, plan_in, serves_at, first_from}
use Rattle.ways.proofs.find.Given as goal

abbrev pub invariant-loop-i : goal.invariant-loop-i
invariant-loop-i l =
    first_from (serves_at (plan_in l.plan l.q) l.work (l.q.slots + 1) (spot_of l.x) l.need) l.from (l.m - l.from)
    ≡ first_from (serves_at (plan_in l.plan l.q) l.work (l.q.slots + 1) (spot_of l.x) l.need) l.i (l.m - l.i)

abbrev pub decreases-loop-i : goal.decreases-loop-i
decreases-loop-i l = l.m - l.i
