-- `memory::copy` meets its contract. The loop's invariant: the first i entries are copied.
-- Assumes nothing.
use native.Mathlib.Omega.{arith}
use Rattle.memory.proofs.CopyLaws.{copying_none, copying_more, copying_all}
use Rattle.memory.proofs.copy.Goals as goal

pub loop-i-init : goal.loop-i-init
loop-i-init c = copying_none _ _ _ _

pub loop-i-preserved : goal.loop-i-preserved
loop-i-preserved c = copying_more _ _ _ _ _ _ c.loop-i-test.true c.requires.table_room c.loop-i.invariant

pub returns : goal.returns
returns c = copying_all _ _ _ _ _ _ (omega arith) c.loop-i.invariant
