-- `loads::largest` meets its contract. The loop's invariant: best is the place of the largest of the first u entries.
-- Assumes nothing.
use native.Mathlib.Omega.{arith}
use Rattle.loads.proofs.LargestLaws.{best_first, best_next, best_all}
use Rattle.loads.proofs.largest.Goals as goal

pub loop-u-init : goal.loop-u-init
loop-u-init c = best_first _ _ _ (omega arith)

pub loop-u-preserved : goal.loop-u-preserved
loop-u-preserved c = best_next _ _ _ _ _ _ c.loop-u-test.true c.better-best.ensures c.loop-u.invariant

pub returns : goal.returns
returns c = best_all _ _ _ _ _ (omega arith) c.loop-u.invariant
