-- `stale::depth_of` meets its contract. The loop's invariant: the sum is that of the h slots before u, and the depth has room for them and
-- for any h slots before.
-- Assumes nothing.
use Rattle.std.proofs.Common.{refl, arith}
use Rattle.walks.proofs.Accepted.{accepted}
use Rattle.stale.proofs.DepthLaws.{at_inside, sliding_none, slide_fits, sliding_more, depth_found}
use Rattle.stale.proofs.depth_of.Goals as goal

pub loop-u-init : goal.loop-u-init
loop-u-init c = sliding_none _ _ _ _ c.requires

pub slot_end-entered-requires : goal.slot_end-entered-requires
slot_end-entered-requires c = at_inside _ _ _ c.loop-u.invariant.enters

pub slot_end-left-requires : goal.slot_end-left-requires
slot_end-left-requires c = at_inside _ _ _ c.loop-u.invariant.leaves

pub overflow_add-load : goal.overflow_add-load
overflow_add-load c =
    omega (
      arith,
      (slide_fits _ _ _ _ c.requires _ _ _ _ _ _ _ _ _ _ c.loop-u.invariant c.slot_end-entered.ensures c.saturating_sub.ensures
          c.slot_end-left.ensures c.load_of-more.ensures c.load_of-less.ensures).1,
    )

pub overflow_sub-load : goal.overflow_sub-load
overflow_sub-load c =
    omega (
      arith,
      (slide_fits _ _ _ _ c.requires _ _ _ _ _ _ _ _ _ _ c.loop-u.invariant c.slot_end-entered.ensures c.saturating_sub.ensures
          c.slot_end-left.ensures c.load_of-more.ensures c.load_of-less.ensures).0,
    )

pub deeper-depth-requires : goal.deeper-depth-requires
deeper-depth-requires c =
    let plan_kept = accepted _ _ _ c.requires.accepted in (
      plan_kept.some_station,
      plan_kept.stations,
      (slide_fits _ _ _ _ c.requires _ _ _ _ _ _ _ _ _ _ c.loop-u.invariant c.slot_end-entered.ensures c.saturating_sub.ensures
          c.slot_end-left.ensures c.load_of-more.ensures c.load_of-less.ensures).2,
    )

pub overflow_add-u-end : goal.overflow_add-u-end
overflow_add-u-end c =
    omega (arith, (accepted _ _ _ c.requires.accepted).slots)

pub loop-u-preserved : goal.loop-u-preserved
loop-u-preserved c =
    sliding_more _ _ _ _ c.requires _ _ _ _ _ _ _ _ _ _ c.loop-u.invariant c.slot_end-entered.ensures c.saturating_sub.ensures
    c.slot_end-left.ensures c.load_of-more.ensures c.load_of-less.ensures
    _ _ refl c.deeper-depth.ensures.0 c.deeper-depth.ensures.1

pub returns : goal.returns
returns c =
    depth_found _ _ _ _ c.requires _ _ _ _ _ _ (omega arith) c.loop-u.invariant c.min.ensures
