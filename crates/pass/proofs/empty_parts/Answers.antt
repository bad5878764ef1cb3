-- `pass::empty_parts` meets its contract. The loop's invariant: emptying the parts from the i-th on gives what emptying all gives.
-- Assumes nothing.
use Rattle.std.proofs.Common.{arith}
use Rattle.pass.proofs.PlaceLaws.{emptying_more, emptying_all}
use Rattle.pass.proofs.empty_parts.Goals as goal

pub loop-i-preserved : goal.loop-i-preserved
loop-i-preserved c = emptying_more _ _ _ _ _ _ _ (omega arith) c.loop-i.invariant c.empty_part.ensures

pub returns : goal.returns
returns c = emptying_all _ _ _ _ _ _ (omega arith) c.loop-i.invariant
