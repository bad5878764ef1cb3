-- `loads::busiest_work` meets its contract: too many clears the work area; else the lowest station with the largest load is
-- found before it is cleared.
-- Assumes nothing.
use native.Mathlib.Omega.{arith}
use Rattle.walks.proofs.Accepted.{accepted}
use Rattle.loads.proofs.LoadLaws.{tally_room, compared_refused, compared_found}
use Rattle.loads.proofs.busiest_work.Goals as goal

pub overflow_add-t : goal.overflow_add-t
overflow_add-t c = omega (arith, (accepted _ _ _ c.requires.accepted).slots)

pub returns-then-tally : goal.returns-then-tally
returns-then-tally c =
    compared_refused _ _ _ _ _ _ _ c.tally.ensures _ c.clear.ensures
    c.if-tally.true

pub base_of-base-requires : goal.base_of-base-requires
base_of-base-requires c =
    let a = accepted _ _ _ c.requires.accepted in (a.stations, a.slots)

pub overflow_add-base : goal.overflow_add-base
overflow_add-base c =
    omega
    (arith, tally_room _ _ _ _ c.base_of-base.ensures c.requires.area, c.well_formed.0.0)

pub largest-v-requires : goal.largest-v-requires
largest-v-requires c = (
  (accepted _ _ _ c.requires.accepted).some_station,
  omega (
    arith,
    tally_room _ _ _ _ c.base_of-base.ensures c.requires.area,
    c.tally.ensures.same_length,
  ),
)

pub overflow_add-t-2 : goal.overflow_add-t-2
overflow_add-t-2 c = omega (arith, (accepted _ _ _ c.requires.accepted).slots)

pub returns : goal.returns
returns c =
    compared_found _ _ _ _ _ _ _ c.tally.ensures _ c.clear-2.ensures
    c.if-tally.false _ _ c.base_of-base.ensures
    c.largest-v.ensures
