-- `pass::copy_row` meets its contract.
-- Assumes nothing.
use Rattle.std.proofs.Common.{rules}
use Rattle.pass.specs.Row.{second}
use Rattle.pass.proofs.copy_row.Goals as goal

pub returns : goal.returns
unfolding second
returns c = c.combine_rows.ensures second (λ a b r e. search rules)
