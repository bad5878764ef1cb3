-- `plan::kept_slot_end` meets its contract. The loop's invariant: the records from j to before i are in slot u. The measure is the number of
-- records left.
-- Assumes nothing.
use native.Mathlib.Omega.{arith}
use mathlib.Core.Path.{sym, ◌∙◌}
use Rattle.plan.proofs.SlotLaws.{in_slot_inv, counting_none, counting_more, counting_all, kept_small}
use Rattle.plan.proofs.kept_slot_end.Goals as goal

pub loop-i-init : goal.loop-i-init
loop-i-init c = counting_none _ _ _ c.requires

pub overflow_add-i : goal.overflow_add-i
overflow_add-i c =
    let (there, slot) = in_slot_inv _ _ _ (sym c.kept_in_slot.ensures ∙ c.loop-i-test.true) in
    omega (arith, kept_small _ _ _ there, c.well_formed.0.0)

pub loop-i-smaller : goal.loop-i-smaller
loop-i-smaller c = let (there, slot) = in_slot_inv _ _ _ (sym c.kept_in_slot.ensures ∙ c.loop-i-test.true) in omega arith

pub loop-i-preserved : goal.loop-i-preserved
loop-i-preserved c = counting_more _ _ _ _ (sym c.kept_in_slot.ensures ∙ c.loop-i-test.true) c.loop-i.invariant

pub returns : goal.returns
returns c = counting_all _ _ _ _ (sym c.kept_in_slot.ensures ∙ c.loop-i-test.false) c.loop-i.invariant
