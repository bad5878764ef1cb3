-- `ways::first_path` meets its contract. The loop's invariant: the first k entries are the least that begin a shortest walk.
-- Assumes nothing.
use native.Mathlib.Omega.{arith}
use Rattle.ways.proofs.ListingLaws.{beginning_none, beginning_more, beginning_all}
use Rattle.ways.proofs.AdvanceLaws.{leg_ready}
use Rattle.ways.proofs.first_path.Goals as goal

pub loop-k-init : goal.loop-k-init
loop-k-init c = beginning_none _ _ _ c.requires.listable _

pub place-requires : goal.place-requires
place-requires c = leg_ready _ _ _ _ c.requires _ _ (omega arith) c.loop-k.invariant.same

pub loop-k-preserved : goal.loop-k-preserved
loop-k-preserved c =
    let pre = c.requires in
    let inv = c.loop-k.invariant in
    beginning_more _ _ _ pre.listable _ pre.table _ _ _ inv (omega arith) (leg_ready _ _ _ _ pre _ c.loop-k.way (omega arith) inv.same).entry c.place.ensures

pub shape_of-way : goal.shape_of-way
shape_of-way c = c.loop-k.invariant.same

pub returns : goal.returns
returns c = beginning_all _ _ _ c.requires.listable _ _ _ (omega arith) c.loop-k.invariant
