-- `reach_entries::settle` meets its contract. The loop's invariant: settling the stations from v on gives what settling all from the
-- first gives.
-- Assumes nothing.
use lib.Arith.{digits_lt}
use native.Mathlib.Omega.{arith}
use Rattle.reach_entries.proofs.MergeLaws.{settling_none, settling_more, settling_all}
use Rattle.reach_entries.proofs.settle.Goals as goal

pub loop-v-init : goal.loop-v-init
loop-v-init c = settling_none _ _ _ _ _

pub overflow_mul-v : goal.overflow_mul-v
overflow_mul-v c = omega (arith, digits_lt c.loop-v-test.true c.requires.1)

pub overflow_add-v : goal.overflow_add-v
overflow_add-v c = omega (arith, digits_lt c.loop-v-test.true c.requires.1)

pub settle_one-requires : goal.settle_one-requires
settle_one-requires c =
    let spot = digits_lt c.loop-v-test.true c.requires.1 in
    record { to_hops = omega arith; to_counts = omega arith; from_hops = omega arith; from_counts = omega arith }

pub loop-v-preserved : goal.loop-v-preserved
loop-v-preserved c =
    rw c.settle_one.ensures (settling_more _ _ _ _ _ _ _ (omega arith) c.loop-v.invariant)

pub returns : goal.returns
returns c = settling_all _ _ _ _ _ _ _ (omega arith) c.loop-v.invariant
