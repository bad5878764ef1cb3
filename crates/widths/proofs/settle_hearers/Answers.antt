-- `widths::settle_hearers` meets its contract. The loop's invariant: settling the stations from number i on gives what settling all of them
-- gives.
-- Assumes nothing.
use Rattle.std.proofs.Common.{arith}
use Rattle.pass.proofs.PlaceLaws.{station_inside}
use Rattle.widths.proofs.CellLaws.{keys_kept}
use Rattle.widths.proofs.CodeLaws.{settling_more, settling_all, slot_keys}
use Rattle.widths.proofs.settle_hearers.Goals as goal

pub settle_keys-requires : goal.settle_keys-requires
settle_keys-requires c =
    let (is, most, settling) = c.loop-i.invariant in (
      keys_kept c.requires.0 settling.same,
      rw c.station_at-v.ensures
          (station_inside _ _ _ _ c.requires.1 c.requires.2 _ is _ (omega (arith, c.loop-i-test.true, most))),
    )

pub loop-i-preserved : goal.loop-i-preserved
loop-i-preserved c =
    let (is, most, settling) = c.loop-i.invariant in
    (is, most, settling_more _ _ _ _ _ _ _ _ settling _ _ c.loop-i-test.true c.station_at-v.ensures c.settle_keys.ensures c.settle_keys.auto.work)

pub returns : goal.returns
returns c =
    let (is, most, settling) = c.loop-i.invariant in
    slot_keys _ _ _ _ c.requires.1 c.requires.2 _ _ _ _ _ _ _ is most (settling_all _ _ _ _ _ _ _ _ settling (omega arith))
