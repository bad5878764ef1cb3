-- `account::put_station` meets its contract: a label, then three numbers.
-- Assumes nothing.
use Rattle.account.specs.Account.{station_line}
use Rattle.account.proofs.put_station.Goals as goal

pub put_labelled-requires : goal.put_labelled-requires
unfolding station_line
put_labelled-requires c = c.requires

pub returns : goal.returns
unfolding station_line
returns c = c.put_labelled.ensures
