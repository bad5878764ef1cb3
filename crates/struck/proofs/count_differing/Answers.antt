-- `struck::count_differing` meets its contract.
-- Assumes nothing.
use native.Mathlib.Omega.{arith}
use Rattle.struck.proofs.CompareLaws.{counting_none, counting_few, counting_more, counting_all}
use Rattle.struck.proofs.count_differing.Goals as goal

pub loop-z-init : goal.loop-z-init
loop-z-init c = counting_none _ _ _ _

pub differing_at-k-requires : goal.differing_at-k-requires
differing_at-k-requires c = (c.requires, c.loop-z-test.true)

pub overflow_add-k : goal.overflow_add-k
overflow_add-k c = omega (arith, counting_few _ _ _ _ _ _ _ (omega arith) c.loop-z.invariant c.differing_at-k.ensures)

pub loop-z-preserved : goal.loop-z-preserved
loop-z-preserved c = counting_more _ _ _ _ _ _ _ (omega arith) c.loop-z.invariant c.differing_at-k.ensures

pub returns : goal.returns
returns c = counting_all _ _ _ _ _ _ (omega arith) c.loop-z.invariant
