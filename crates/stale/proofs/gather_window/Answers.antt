-- `stale::gather_window` meets its contract: the source's window is opened; any other is emptied, gathered and masked.
-- Assumes nothing.
use Rattle.std.proofs.Common.{arith}
use Rattle.stale.proofs.RingPlaces.{area_same, ring_fits}
use Rattle.stale.proofs.WindowSteps.{window_source, window_other}
use Rattle.stale.proofs.gather_window.Goals as goal

pub open_entry-requires : goal.open_entry-requires
open_entry-requires c =
    (c.requires.1, rw c.ring_at-base.ensures (ring_fits c.requires.0 _ (omega arith)))

pub returns-then-v-source : goal.returns-then-v-source
returns-then-v-source c =
    window_source _ _ _ _ _ _ _ _ _ _ _ _ c.ring_at-base.ensures _ _ _ (omega arith)
    c.split_of-split.ensures c.ones_of-one.ensures c.open_entry.ensures

pub empty_entry-requires : goal.empty_entry-requires
empty_entry-requires c =
    (c.requires.1, omega (arith, ring_fits c.requires.0 c.args.depth (omega arith), c.ring_at-base.ensures))

pub gather-requires : goal.gather-requires
gather-requires c = (
  area_same c.requires.0 c.empty_entry.auto.work,
  omega (arith, ring_fits c.requires.0 c.args.depth (omega arith), c.ring_at-base.ensures, c.empty_entry.auto.work),
  c.requires.1,
)

pub mask_entry-requires : goal.mask_entry-requires
mask_entry-requires c = (
  c.requires.1,
  omega (
    arith,
    ring_fits c.requires.0 c.args.depth (omega arith),
    c.ring_at-base.ensures,
    c.gather.auto.work,
    c.empty_entry.auto.work,
  ),
  c.requires.3,
)

pub returns : goal.returns
returns c =
    window_other _ _ _ _ _ _ _ _ _ _ _ _ c.ring_at-base.ensures _ _ _ _ _ _ _ (omega arith)
    c.head_of-head.ensures c.oldest_of-oldest.ensures c.empty_entry.ensures c.window_first-first.ensures
    c.window_end-end.ensures c.gather.ensures c.mask_entry.ensures
