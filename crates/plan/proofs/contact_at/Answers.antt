-- `plan::contact_at` meets its contract: three numbers, read in turn.
-- Assumes nothing.
use Rattle.temporal.specs.Bytes.{contact_at}
use Rattle.plan.proofs.contact_at.Goals as goal

pub returns : goal.returns
unfolding contact_at
returns c = cc
