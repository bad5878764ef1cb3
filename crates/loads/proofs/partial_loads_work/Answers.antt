-- `loads::partial_loads_work` meets its contract: too many clears all three; else the tallies are copied to the tables before the
-- work area is cleared.
-- Assumes nothing.
use native.Mathlib.Omega.{arith}
use Rattle.walks.proofs.Accepted.{accepted}
use Rattle.loads.proofs.LoadLaws.{tally_room, loaded_refused, loaded_filled}
use Rattle.loads.proofs.partial_loads_work.Goals as goal

pub overflow_add-t : goal.overflow_add-t
overflow_add-t c = omega (arith, (accepted _ _ _ c.requires.accepted).slots)

pub returns-then-tally : goal.returns-then-tally
returns-then-tally c =
    loaded_refused _ _ _ _ _ _ _ _ c.requires _ _ c.tally.ensures c.if-tally.true _ _ _ c.clear.ensures
    c.clear-then-tally.ensures c.clear-then-tally-2.ensures

pub base_of-base-requires : goal.base_of-base-requires
base_of-base-requires c =
    let a = accepted _ _ _ c.requires.accepted in (a.stations, a.slots)

pub copy-requires : goal.copy-requires
copy-requires c =
    let room = tally_room _ _ _ _ c.base_of-base.ensures c.requires.area in
    let size = c.tally.ensures.same_length in
    record { source_room = omega arith; table_room = c.requires.pairs_room }

pub overflow_add-base : goal.overflow_add-base
overflow_add-base c =
    omega
    (arith, tally_room _ _ _ _ c.base_of-base.ensures c.requires.area, c.well_formed.1.1.0.0)

pub copy-requires-2 : goal.copy-requires-2
copy-requires-2 c =
    let room = tally_room _ _ _ _ c.base_of-base.ensures c.requires.area in
    let size = c.tally.ensures.same_length in
    record { source_room = omega arith; table_room = c.requires.loads_room }

pub overflow_add-t-2 : goal.overflow_add-t-2
overflow_add-t-2 c = omega (arith, (accepted _ _ _ c.requires.accepted).slots)

pub returns : goal.returns
returns c =
    loaded_filled _ _ _ _ _ _ _ _ c.requires _ _ c.tally.ensures c.if-tally.false _ _ _ _ c.base_of-base.ensures
    c.copy.ensures c.copy-2.ensures c.clear-2.ensures
