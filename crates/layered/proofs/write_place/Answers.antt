-- `layered::write_place` meets its contract: the place is in layer 0 or in layer 1 of its slot.
-- Assumes nothing.
use native.Mathlib.Omega.{arith}
use Rattle.layered.proofs.SlotLaws.{bounds_few, stands_lower, stands_upper, stands_wrote}
use Rattle.layered.proofs.write_place.Goals as goal

pub overflow_add-lo : goal.overflow_add-lo
overflow_add-lo c = record { fits = omega (arith, bounds_few _ _ _ _ _ _ c.requires) }

pub overflow_sub-q : goal.overflow_sub-q
overflow_sub-q c = (stands_lower _ _ _ _ _ _ c.requires c.if-q-lo.true).from

pub write_raised-requires : goal.write_raised-requires
write_raised-requires c =
    let pre = c.requires in
    record { plan = pre.plan; there = (stands_lower _ _ _ _ _ _ pre c.if-q-lo.true).there; place = pre.place }

pub write_raised-requires-else-q-lo : goal.write_raised-requires-else-q-lo
write_raised-requires-else-q-lo c =
    let pre = c.requires in
    record { plan = pre.plan; there = (stands_upper _ _ _ _ _ _ pre c.if-q-lo.false).there; place = pre.place }

pub returns-then-q-lo : goal.returns-then-q-lo
returns-then-q-lo c =
    let a = c.args in
    stands_wrote _ a.n a.v _ _ _ a.out.now _ (stands_lower _ _ _ _ _ _ c.requires c.if-q-lo.true)
    c.write_raised.ensures

pub returns-else-q-lo : goal.returns-else-q-lo
returns-else-q-lo c =
    let a = c.args in
    stands_wrote _ a.n a.v _ _ _ a.out.now _ (stands_upper _ _ _ _ _ _ c.requires c.if-q-lo.false)
    c.write_raised-else-q-lo.ensures
