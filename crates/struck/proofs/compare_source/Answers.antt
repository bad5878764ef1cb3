-- `struck::compare_source` meets its contract.
-- Assumes nothing.
use Rattle.struck.proofs.CompareLaws.{compared_over, compared_pairs}
use Rattle.struck.proofs.compare_source.Goals as goal

pub returns-then-pass : goal.returns-then-pass
returns-then-pass c = compared_over _ _ _ _ _ _ _ _ _ c.requires _ c.copy_row.ensures _ (rw c.if-pass.true at c.pass.ensures)

pub returns : goal.returns
returns c = compared_pairs _ _ _ _ _ _ _ _ _ c.requires _ c.copy_row.ensures _ (rw c.if-pass.false at c.pass.ensures) _ c.count_differing.ensures
