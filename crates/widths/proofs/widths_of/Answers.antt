-- `widths::widths_of` meets its contract. The loop's invariant: in slot u, at position j, each column whose bound is small has the keys of the pass
-- with empty rows for its source (Running). The measure is the number of slots and of records left.
-- Assumes nothing.
use Rattle.std.proofs.Common.{sym, refl, ◌∙◌, arith}
use Rattle.walks.proofs.Accepted.{accepted}
use Rattle.plan.proofs.SlotLaws.{in_slot_inv}
use Rattle.widths.proofs.RunLaws.{ready_parts, ready_rows, ready_begin, running_begun, running_trail, running_foldable, running_fold}
use Rattle.widths.proofs.RunLaws.{running_end, running_on, running_part, running_hearers, running_settle, running_found}
use Rattle.widths.proofs.widths_of.Goals as goal

pub overflow_add-bounds : goal.overflow_add-bounds
overflow_add-bounds c = let few = ready_parts _ _ _ _ _ _ _ c.requires _ c.min-q.ensures in omega (arith, few.1)

pub overflow_mul-bounds : goal.overflow_mul-bounds
overflow_mul-bounds c = omega (arith, ready_rows _ _ _ _ _ _ _ c.requires _ c.min-q.ensures)

pub begin_keys-requires : goal.begin_keys-requires
begin_keys-requires c = ready_begin _ _ _ _ _ _ _ c.requires _ c.min-q.ensures

pub part_row-base-requires : goal.part_row-base-requires
part_row-base-requires c = ready_parts _ _ _ _ _ _ _ c.requires _ c.min-q.ensures

pub loop-u-init : goal.loop-u-init
loop-u-init c =
    (refl, running_begun _ _ _ _ _ _ _ _ _ _ _ c.requires c.min-q.ensures refl c.part_row-base.ensures c.begin_keys.ensures)

pub overflow_add-t : goal.overflow_add-t
overflow_add-t c = omega (arith, (accepted _ _ _ c.loop-u.invariant.1.ready.accepted).slots, c.loop-u.invariant.1.parts)

pub fold_keys-requires : goal.fold_keys-requires
fold_keys-requires c =
    let (is, run) = c.loop-u.invariant in
    rw is (running_foldable run (sym c.kept_in_slot.ensures ∙ c.if-kept_in_slot.true))

pub overflow_add-j : goal.overflow_add-j
overflow_add-j c =
    let (there, slot) = in_slot_inv _ _ _ (sym c.kept_in_slot.ensures ∙ c.if-kept_in_slot.true) in
    omega (arith, (accepted _ _ _ c.loop-u.invariant.1.ready.accepted).few)

pub loop-u-smaller-then-kept_in_slot : goal.loop-u-smaller-then-kept_in_slot
loop-u-smaller-then-kept_in_slot c =
    let (there, slot) = in_slot_inv _ _ _ (sym c.kept_in_slot.ensures ∙ c.if-kept_in_slot.true) in
    omega arith

pub loop-u-preserved-then-kept_in_slot : goal.loop-u-preserved-then-kept_in_slot
loop-u-preserved-then-kept_in_slot c =
    let (is, run) = c.loop-u.invariant in
    (is, rw c.fold_keys.ensures (running_fold run (sym c.kept_in_slot.ensures ∙ c.if-kept_in_slot.true)))

pub overflow_add-u : goal.overflow_add-u
overflow_add-u c =
    omega (arith, (accepted _ _ _ c.loop-u.invariant.1.ready.accepted).slots, c.loop-u.invariant.1.parts)

pub part_row-base-requires-in-loop-u : goal.part_row-base-requires-in-loop-u
part_row-base-requires-in-loop-u c = ready_parts _ _ _ _ _ _ _ c.requires _ c.min-q.ensures

pub settled_end-end-requires : goal.settled_end-end-requires
settled_end-end-requires c =
    let (is, run) = c.loop-u.invariant in (
      running_trail run,
      λ one. running_end run (sym c.kept_in_slot.ensures ∙ c.if-kept_in_slot.false) c.if-q-u.true one,
    )

pub settle_hearers-requires : goal.settle_hearers-requires
settle_hearers-requires c =
    let (is, run) = c.loop-u.invariant in (
      rw is (running_part run (sym c.kept_in_slot.ensures ∙ c.if-kept_in_slot.false) _ c.part_row-base-in-loop-u.ensures
          c.if-q-u.true c.loop-u-test.true _ c.settled_end-end.ensures),
      running_hearers run (sym c.kept_in_slot.ensures ∙ c.if-kept_in_slot.false) _ c.part_row-base-in-loop-u.ensures
          c.if-q-u.true c.loop-u-test.true _ c.settled_end-end.ensures,
      c.settled_end-end.ensures.from,
    )

pub loop-u-preserved-then-q-u : goal.loop-u-preserved-then-q-u
loop-u-preserved-then-q-u c =
    let (is, run) = c.loop-u.invariant in (
      is,
      running_settle run (sym c.kept_in_slot.ensures ∙ c.if-kept_in_slot.false) _ c.part_row-base-in-loop-u.ensures
          c.if-q-u.true c.loop-u-test.true _ c.settled_end-end.ensures _ (rw is at c.settle_hearers.ensures),
    )

pub loop-u-preserved : goal.loop-u-preserved
loop-u-preserved c =
    let (is, run) = c.loop-u.invariant in (
      is,
      running_on run (sym c.kept_in_slot.ensures ∙ c.if-kept_in_slot.false) _ c.part_row-base-in-loop-u.ensures (omega arith)
          c.loop-u-test.true,
    )

pub returns : goal.returns
returns c =
    let (is, run) = c.loop-u.invariant in
    running_found run (omega arith) _ c.requires (rw is at c.begin_keys.ensures) _ (rw is at c.splits_from.ensures)
