-- `pass::too_wide` meets its contract: each branch by its comparison.
-- Assumes nothing.
use Rattle.std.proofs.Common.{refl, arith}
use Rattle.pass.proofs.WidthLaws.{wide_whole, wide_over, wide_by}
use Rattle.pass.proofs.too_wide.Goals as goal

pub returns-then-split-eq0 : goal.returns-then-split-eq0
returns-then-split-eq0 c = wide_whole _ _ _ _ _ (omega arith)

pub returns-then-merged-eq0 : goal.returns-then-merged-eq0
returns-then-merged-eq0 c = wide_over _ _ _ _ _ _ (omega arith) c.merged_count-merged.ensures (omega arith)

pub returns-else-merged-eq0 : goal.returns-else-merged-eq0
returns-else-merged-eq0 c = wide_by _ _ _ _ _ _ (omega arith) c.merged_count-merged.ensures _ (omega arith) c.limit_of.ensures _ refl
