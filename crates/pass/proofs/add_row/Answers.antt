-- `pass::add_row` meets its contract.
-- Assumes nothing.
use Rattle.std.proofs.Common.{rules}
use Rattle.pass.specs.Row.{wrapped}
use Rattle.pass.proofs.add_row.Goals as goal

pub returns : goal.returns
unfolding wrapped
returns c = c.combine_rows.ensures wrapped (λ a b r e. search rules)
