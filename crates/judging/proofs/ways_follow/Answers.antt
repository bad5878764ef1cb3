-- `judging::ways_follow` meets its contract. The loop's invariant: the entries before the place are the first ways.
-- Assumes nothing.
use native.Mathlib.Omega.{arith}
use mathlib.Core.Path.{refl}
use Rattle.lists.proofs.ListLaws.{not_both}
use Rattle.judging.proofs.JudgeLaws.{one_way, way_before, way_behind, through_first, through_next, no_next, through_all}
use Rattle.judging.proofs.ways_follow.Goals as goal

pub loop-at-init : goal.loop-at-init
loop-at-init c =
    let pre = c.requires in
    through_first _ _ _ pre.0.pair _ (one_way _ _ _ _ pre.0) pre.1

pub follows_at-requires : goal.follows_at-requires
follows_at-requires c =
    let pre = c.requires in
    let inv = c.loop-at.invariant in
    (pre.0.pair, way_before _ _ _ _ pre.0 _ inv, way_behind _ _ _ _ pre.0 _ inv (omega arith))

pub loop-at-preserved : goal.loop-at-preserved
loop-at-preserved c =
    let pre = c.requires in
    let inv = c.loop-at.invariant in
    through_next _ _ _ pre.0.pair _ _ inv (way_behind _ _ _ _ pre.0 _ inv (omega arith))
    (c.follows_at.ensures.yes c.if-not-follows_at.false)

pub returns-then-not-follows_at : goal.returns-then-not-follows_at
returns-then-not-follows_at c =
    let pre = c.requires in
    let inv = c.loop-at.invariant in
    record {
      yes = λ h. absurd (not_both h refl);
      no = λ h.
          no_next _ _ _ pre.0.pair _ _ inv (way_behind _ _ _ _ pre.0 _ inv (omega arith))
          (c.follows_at.ensures.no c.if-not-follows_at.true);
    }

pub returns-else-not-follows_at : goal.returns-else-not-follows_at
returns-else-not-follows_at c =
    let pre = c.requires in
    let inv = c.loop-at.invariant in
    let next =
    through_next _ _ _ pre.0.pair _ _ inv (way_behind _ _ _ _ pre.0 _ inv (omega arith))
    (c.follows_at.ensures.yes c.if-not-follows_at.false) in
    record {
      yes = λ h. through_all _ _ _ pre.0.pair _ _ next (omega arith);
      no = λ h. absurd (not_both refl h);
    }
