-- `pass::settle_slot` meets its contract. The loop's invariant: settling the stations from number i on gives what settling all of them gives.
-- Assumes nothing.
use Rattle.std.proofs.Common.{arith}
use Rattle.pass.proofs.PlaceLaws.{part_kept, settling_more, settling_stops, settling_all}
use Rattle.pass.proofs.PlaceLaws.{station_inside, slot_settled}
use Rattle.pass.proofs.settle_slot.Goals as goal

pub settle_one-requires : goal.settle_one-requires
settle_one-requires c =
    let (is, most, settling) = c.loop-i.invariant in (
      part_kept c.requires.0 settling.same,
      rw c.station_at-v.ensures
          (station_inside _ _ _ _ c.requires.1 c.requires.3 _ is _ (omega (arith, c.loop-i-test.true, most))),
      c.requires.2,
    )

pub returns-then-settle_one : goal.returns-then-settle_one
returns-then-settle_one c =
    let (is, most, settling) = c.loop-i.invariant in
    slot_settled _ _ _ _ c.requires.1 c.requires.3 _ _ _ _ _ _ _ _ _ _ is
    (rw most at (settling_stops _ _ _ _ _ _ _ _ _ _ _ _ _ settling _ _ c.loop-i-test.true (rw c.station_at-v.ensures at c.settle_one.ensures)
    c.if-settle_one.true))

pub loop-i-preserved : goal.loop-i-preserved
loop-i-preserved c =
    let (is, most, settling) = c.loop-i.invariant in
    (is, most, settling_more _ _ _ _ _ _ _ _ _ _ _ _ _ settling _ _ c.loop-i-test.true (rw c.station_at-v.ensures at c.settle_one.ensures) c.if-settle_one.false c.settle_one.auto.work)

pub returns : goal.returns
returns c =
    let (is, most, settling) = c.loop-i.invariant in
    slot_settled _ _ _ _ c.requires.1 c.requires.3 _ _ _ _ _ _ _ _ _ _ is
    (rw most at (settling_all _ _ _ _ _ _ _ _ _ _ _ _ _ settling (omega arith)))
