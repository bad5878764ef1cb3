-- `stale::push` meets its contract: the source keeps nothing, and any other its next number.
-- Assumes nothing.
use Rattle.std.proofs.Common.{arith}
use Rattle.stale.proofs.WindowSteps.{pushed_source, pushed_by}
use Rattle.stale.proofs.push.Goals as goal

pub returns-then-v-source : goal.returns-then-v-source
returns-then-v-source c = pushed_source _ _ _ _ _ _ _ (omega arith)

pub returns : goal.returns
returns c =
    pushed_by _ _ _ _ _ _ _ _ _ _ (omega arith) c.head_of-k.ensures c.push_entry.ensures c.push_marks.ensures
