-- `forward::kept_columns` meets its contract.
-- Assumes nothing.
use Rattle.forward.specs.Passed.{kept_columns}
use Rattle.forward.proofs.kept_columns.Goals as goal

pub returns : goal.returns
unfolding kept_columns
returns c = c.min.ensures
