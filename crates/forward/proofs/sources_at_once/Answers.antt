-- `forward::sources_at_once` meets its contract.
-- Assumes nothing.
use native.Mathlib.Omega.{arith}
use Rattle.forward.proofs.WidthLaws.{group_kept, group_stale}
use Rattle.forward.proofs.sources_at_once.Goals as goal

pub returns-then-t-h : goal.returns-then-t-h
returns-then-t-h c =
    group_kept _ _ _ _ _ _ c.requires _ _ _ _ (omega arith) c.min-few.ensures c.min-q.ensures
    c.source_size.ensures c.min.ensures

pub returns-else-t-h : goal.returns-else-t-h
returns-else-t-h c = group_stale _ _ _ _ _ _ c.requires _ (omega arith) c.min-few.ensures
