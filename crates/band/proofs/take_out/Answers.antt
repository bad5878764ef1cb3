-- `band::take_out` meets its contract: it is taking out.
-- Assumes nothing.
use Rattle.band.specs.Taking.{taken_by}
use Rattle.band.proofs.take_out.Goals as goal

pub returns : goal.returns
unfolding taken_by
returns c = c.take.ensures
