-- `reach_lasting::settle_records` meets its contract. The loop's invariant: the hearers of the records below k are taken in and marked, the
-- other stations are as they were.
-- Assumes nothing.
use native.Mathlib.Omega.{arith}
use mathlib.Core.Path.{refl}
use Rattle.reach_lasting.proofs.SweepLaws.{sweeping_none, sweeping_fits, sweeping_more, sweeping_all}
use Rattle.reach_lasting.proofs.settle_records.Goals as goal

pub loop-k-init : goal.loop-k-init
loop-k-init c =
    (sweeping_none _ _ _ _ _ _ _ c.requires, c.requires.up)

pub settle_record-requires : goal.settle_record-requires
settle_record-requires c = (
  sweeping_fits _ _ _ _ _ _ _ c.requires _ _ c.loop-k.invariant.0,
  c.requires.slot,
  c.requires.hearers _ c.loop-k.invariant.0.from c.loop-k-test.true,
)

pub loop-k-preserved : goal.loop-k-preserved
loop-k-preserved c =
    let next = sweeping_more _ _ _ _ _ _ _ c.requires _ _ c.loop-k.invariant.0 c.loop-k-test.true _
    c.settle_record.ensures in
    (next, omega arith)

pub unmark-requires : goal.unmark-requires
unmark-requires c =
    ((sweeping_fits _ _ _ _ _ _ _ c.requires _ _ c.loop-k.invariant.0).counts, omega (arith, c.requires.slot), c.requires.hearers)

pub returns : goal.returns
returns c =
    sweeping_all _ _ _ _ _ _ _ c.requires _ _ _ _ c.loop-k-test.false c.loop-k.invariant.1 refl
    c.unmark.ensures c.loop-k.invariant.0
