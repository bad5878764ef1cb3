-- `reach_window::gather` meets its contract. The loop's invariant: gathering the slots from t on gives what gathering all gives.
-- Assumes nothing.
use native.Mathlib.Omega.{arith}
use Rattle.reach_window.proofs.WindowLaws.{gathering_none, gathering_more, gathering_all, slot_place}
use Rattle.reach_window.proofs.gather.Goals as goal

pub loop-t-init : goal.loop-t-init
loop-t-init c = gathering_none _ _ _ _ _ _

pub overflow_mul-v : goal.overflow_mul-v
overflow_mul-v c = omega (arith, slot_place c.requires.1 c.loop-t-test.true c.requires.2)

pub overflow_add-v : goal.overflow_add-v
overflow_add-v c = omega (arith, slot_place c.requires.1 c.loop-t-test.true c.requires.2)

pub settle_one-requires : goal.settle_one-requires
settle_one-requires c =
    let at = slot_place c.requires.1 c.loop-t-test.true c.requires.2 in
    record { to_hops = omega arith; to_counts = omega arith; from_hops = omega arith; from_counts = omega arith }

pub loop-t-preserved : goal.loop-t-preserved
loop-t-preserved c =
    rw c.settle_one.ensures (gathering_more _ _ _ _ _ _ _ _ (omega arith) c.loop-t.invariant)

pub returns : goal.returns
returns c = gathering_all _ _ _ _ _ _ _ _ (omega arith) c.loop-t.invariant
