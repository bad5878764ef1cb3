-- `lanes::columns_of` meets its contract. Assumes nothing.
use Rattle.lanes.proofs.ShiftLaws.{shifted_up}
use Rattle.lanes.proofs.columns_of.Goals as goal

pub returns : goal.returns
returns c = shifted_up _ _ c.requires.0 c.requires.1
