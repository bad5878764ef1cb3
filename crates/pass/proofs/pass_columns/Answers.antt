-- `pass::pass_columns` meets its contract. The loop's invariant: in slot u, at position j, the work area holds the walks from the
-- source by the slot q before, the records from i on are past that slot, and the station until is not reached by it (Passing). The
-- measure is the number of slots and of records left.
-- Assumes nothing.
use Rattle.std.proofs.Common.{false, sym, refl, ◌∙◌, arith}
use Rattle.walks.proofs.Accepted.{accepted}
use Rattle.plan.proofs.SlotLaws.{in_slot_inv}
use Rattle.pass.proofs.WidthLaws.{filled_by}
use Rattle.pass.proofs.PassLaws.{ready_area, passing_begun, passing_trail, passing_end, passing_foldable}
use Rattle.pass.proofs.PassLaws.{passing_fold}
use Rattle.pass.proofs.PassLaws.{passing_on, settle_part, settle_hearers, passed_over, passing_settle}
use Rattle.pass.proofs.PassLaws.{passed_reached, passed_end, passed_entry}
use Rattle.pass.proofs.pass_columns.Goals as goal

pub begin_columns-requires : goal.begin_columns-requires
begin_columns-requires c =
    (rw c.min-q.ensures (ready_area _ _ _ _ _ _ _ _ c.requires.0), c.requires.0.source, c.requires.1)

pub part_at-base-requires : goal.part_at-base-requires
part_at-base-requires c =
    let area = ready_area _ _ _ _ _ _ _ _ c.requires.0 in
    rw c.min-q.ensures (area.parts, omega (arith, area.fits, c.well_formed.0.0))

pub loop-u-init : goal.loop-u-init
loop-u-init c =
    passing_begun _ _ _ _ _ _ _ _ (filled_by _ c.requires.1) _ _ _ _ _ c.min-q.ensures c.requires.0 c.begin_columns.ensures c.requires.2 _ c.part_at-base.ensures

pub overflow_add-t : goal.overflow_add-t
overflow_add-t c = omega (arith, (accepted _ _ _ c.loop-u.invariant.ready.accepted).slots, c.loop-u.invariant.parts)

pub fold_record-requires : goal.fold_record-requires
fold_record-requires c =
    passing_foldable c.loop-u.invariant (sym c.kept_in_slot.ensures ∙ c.if-kept_in_slot.true)

pub overflow_add-j : goal.overflow_add-j
overflow_add-j c =
    let (there, slot) = in_slot_inv _ _ _ (sym c.kept_in_slot.ensures ∙ c.if-kept_in_slot.true) in
    omega (arith, (accepted _ _ _ c.loop-u.invariant.ready.accepted).few)

pub loop-u-smaller-then-kept_in_slot : goal.loop-u-smaller-then-kept_in_slot
loop-u-smaller-then-kept_in_slot c =
    let (there, slot) = in_slot_inv _ _ _ (sym c.kept_in_slot.ensures ∙ c.if-kept_in_slot.true) in
    omega arith

pub loop-u-preserved-then-kept_in_slot : goal.loop-u-preserved-then-kept_in_slot
loop-u-preserved-then-kept_in_slot c =
    rw c.fold_record.ensures
    (passing_fold c.loop-u.invariant (sym c.kept_in_slot.ensures ∙ c.if-kept_in_slot.true))

pub overflow_add-u : goal.overflow_add-u
overflow_add-u c =
    omega (arith, (accepted _ _ _ c.loop-u.invariant.ready.accepted).slots, c.loop-u.invariant.parts)

pub settled_end-end-requires : goal.settled_end-end-requires
settled_end-end-requires c = (
  passing_trail c.loop-u.invariant,
  λ one. passing_end c.loop-u.invariant (sym c.kept_in_slot.ensures ∙ c.if-kept_in_slot.false) c.if-q-u.true one,
)

pub settle_slot-requires : goal.settle_slot-requires
settle_slot-requires c = (
  settle_part c.loop-u.invariant
      (sym c.kept_in_slot.ensures ∙ c.if-kept_in_slot.false) _ c.part_at-base-in-loop-u.ensures
      c.if-q-u.true c.loop-u-test.true,
  settle_hearers c.loop-u.invariant
      (sym c.kept_in_slot.ensures ∙ c.if-kept_in_slot.false) _ c.part_at-base-in-loop-u.ensures
      c.if-q-u.true c.loop-u-test.true _ c.settled_end-end.ensures,
  c.requires.1,
  c.settled_end-end.ensures.from,
)

pub returns-then-settle_slot : goal.returns-then-settle_slot
returns-then-settle_slot c =
    passed_entry _ _ _ _ _ _ false _ (filled_by _ c.requires.1) _ _ _ _ _ c.min-q.ensures c.requires.0 c.begin_columns.ensures _ _
    (passed_over c.loop-u.invariant
    (sym c.kept_in_slot.ensures ∙ c.if-kept_in_slot.false) _ c.part_at-base-in-loop-u.ensures
    c.if-q-u.true c.loop-u-test.true _ c.settled_end-end.ensures _ _
    c.settle_slot.ensures c.if-settle_slot.true _ refl _ c.stop_reason.ensures)

pub returns-then-reached : goal.returns-then-reached
returns-then-reached c =
    passed_entry _ _ _ _ _ _ false _ (filled_by _ c.requires.1) _ _ _ _ _ c.min-q.ensures c.requires.0 c.begin_columns.ensures _ _
    (passed_reached c.loop-u.invariant
    (sym c.kept_in_slot.ensures ∙ c.if-kept_in_slot.false) _ c.part_at-base-in-loop-u.ensures
    c.if-q-u.true c.loop-u-test.true _ c.settled_end-end.ensures _ _
    c.settle_slot.ensures c.if-settle_slot.false (sym c.reached.ensures ∙ c.if-reached.true))

pub loop-u-preserved-else-reached : goal.loop-u-preserved-else-reached
loop-u-preserved-else-reached c =
    passing_settle c.loop-u.invariant
    (sym c.kept_in_slot.ensures ∙ c.if-kept_in_slot.false) _ c.part_at-base-in-loop-u.ensures
    c.if-q-u.true c.loop-u-test.true _ c.settled_end-end.ensures _ _
    c.settle_slot.ensures c.if-settle_slot.false (sym c.reached.ensures ∙ c.if-reached.false)

pub loop-u-preserved : goal.loop-u-preserved
loop-u-preserved c =
    passing_on c.loop-u.invariant
    (sym c.kept_in_slot.ensures ∙ c.if-kept_in_slot.false) _ c.part_at-base-in-loop-u.ensures
    (omega arith) c.loop-u-test.true

pub returns : goal.returns
returns c =
    passed_entry _ _ _ _ _ _ false _ (filled_by _ c.requires.1) _ _ _ _ _ c.min-q.ensures c.requires.0 c.begin_columns.ensures _ _
    (passed_end c.loop-u.invariant _ (omega arith) c.end_pass.ensures)
