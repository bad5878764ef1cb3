-- `ways::is_due` meets its contract: the slots of the two records are compared, where there is a first.
-- Assumes nothing.
use native.Mathlib.Omega.{arith}
use Rattle.ways.proofs.ColumnLaws.{due_read, due_first}
use Rattle.ways.proofs.is_due.Goals as goal

pub returns : goal.returns
returns c =
    due_read _ _ _ _ _ _ _ (omega arith) c.contact_at-c.ensures
    c.contact_at-d.ensures c.saturating_sub.ensures

pub returns-then-i-eq0 : goal.returns-then-i-eq0
returns-then-i-eq0 c = due_first _ _ _ _ (omega arith)
