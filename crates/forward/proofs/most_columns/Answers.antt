-- `forward::most_columns` meets its contract: the number of columns of the pass that it is.
-- Assumes nothing.
use native.Mathlib.Omega.{arith}
use Rattle.forward.proofs.SizeLaws.{most_kept, most_window}
use Rattle.forward.proofs.most_columns.Goals as goal

pub returns-then-t-h : goal.returns-then-t-h
returns-then-t-h c = most_kept _ _ _ _ _ _ _ (omega arith) c.min.ensures c.kept_columns.ensures

pub returns-else-t-h : goal.returns-else-t-h
returns-else-t-h c = most_window _ _ _ _ _ _ (omega arith) c.window_columns.ensures
