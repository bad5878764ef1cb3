-- `band::take_in` meets its contract: it is taking in.
-- Assumes nothing.
use Rattle.band.specs.Taking.{taken_by}
use Rattle.band.proofs.take_in.Goals as goal

pub returns : goal.returns
unfolding taken_by
returns c = c.take.ensures
