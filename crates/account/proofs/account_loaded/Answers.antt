-- `account::account_loaded` meets its contract: the first line, the layered plan, the pairs.
-- Assumes nothing.
use Rattle.account.proofs.AccountedLaws.{station_room, loaded_layerable, layers_writable, account_written}
use Rattle.account.proofs.account_loaded.Goals as goal

pub put_station-at-requires : goal.put_station-at-requires
put_station-at-requires c =
    station_room _ _ _ _ _ _ c.args.out.now _ _ _ _ _ c.requires

pub layer-requires : goal.layer-requires
layer-requires c =
    loaded_layerable _ _ _ _ _ _ _ _ _ c.args.layers.now _ _ c.requires

pub put_pairs_of-requires : goal.put_pairs_of-requires
put_pairs_of-requires c =
    layers_writable _ _ _ _ _ _ _ _ _ _ _ _ c.requires _ _ c.put_station-at.ensures _ c.layer.ensures

pub returns : goal.returns
returns c =
    account_written _ _ _ _ _ _ _ _ _ _ _ _ c.requires _ _ c.put_station-at.ensures _ _ c.put_pairs_of.ensures
