-- `forward::pass` meets its contract: no record is left out.
-- Assumes nothing.
use Rattle.forward.proofs.UseLaws.{pass_whole, passed_whole}
use Rattle.forward.proofs.pass.Goals as goal

pub pass_without-requires : goal.pass_without-requires
pass_without-requires c = pass_whole _ _ _ _ _ _ _ _ _ c.requires

pub returns : goal.returns
returns c = passed_whole _ _ _ _ _ _ _ _ _ _ _ c.pass_without.ensures
