-- `stale::pass_window` meets its contract. The loop's invariant: before slot u, at position j, the work area holds the walks from the
-- source by the slot before, and those that are kept (Windowing).
-- Assumes nothing.
use Rattle.std.proofs.Common.{refl, arith}
use Rattle.walks.proofs.Accepted.{accepted}
use Rattle.pass.proofs.WidthLaws.{filled_by}
use Rattle.stale.proofs.WindowPass.{ready_begun, windowing_begun, windowing_area, windowing_position}
use Rattle.stale.proofs.WindowPass.{windowing_records, windowing_next, passed_over, passed_end, passed_entry}
use Rattle.stale.proofs.pass_window.Goals as goal

pub loop-u-init : goal.loop-u-init
loop-u-init c =
    windowing_begun _ _ _ _ _ _ _ (filled_by _ c.requires.1) _ _ _ _ c.requires.0 c.begin_window.ensures

pub kept_slot_end-end-requires : goal.kept_slot_end-end-requires
kept_slot_end-end-requires c =
    let ready = ready_begun _ _ _ _ _ _ _ _ _ _ c.requires.0 c.begin_window.ensures in
    windowing_position _ _ _ _ _ _ _ _ _ _ ready _ _ _ c.loop-u.invariant

pub window_slot-requires : goal.window_slot-requires
window_slot-requires c =
    let ready = ready_begun _ _ _ _ _ _ _ _ _ _ c.requires.0 c.begin_window.ensures in (
      windowing_area _ _ _ _ _ _ _ _ _ _ ready _ _ _ c.loop-u.invariant,
      c.requires.0.units.turns,
      windowing_records _ _ _ _ _ _ _ _ _ _ ready _ _ _ c.loop-u.invariant _ c.kept_slot_end-end.ensures,
      c.requires.1,
      c.requires.0.source,
    )

pub returns-then-window_slot : goal.returns-then-window_slot
returns-then-window_slot c =
    let ready = ready_begun _ _ _ _ _ _ _ _ _ _ c.requires.0 c.begin_window.ensures in
    passed_entry _ _ _ _ _ _ _ (filled_by _ c.requires.1) _ _ _ _ c.requires.0 c.begin_window.ensures _ _
    (passed_over _ _ _ _ _ _ _ _ _ _ ready _ _ _ c.loop-u.invariant _
    c.kept_slot_end-end.ensures _ _ (omega arith) c.window_slot.ensures c.if-window_slot.true _ refl _ c.stop_reason.ensures)

pub overflow_add-u-end : goal.overflow_add-u-end
overflow_add-u-end c =
    omega (arith, (accepted _ _ _ c.requires.0.accepted).slots)

pub loop-u-preserved : goal.loop-u-preserved
loop-u-preserved c =
    let ready = ready_begun _ _ _ _ _ _ _ _ _ _ c.requires.0 c.begin_window.ensures in
    windowing_next _ _ _ _ _ _ _ _ _ _ ready _ _ _ c.loop-u.invariant _
    c.kept_slot_end-end.ensures _ _ (omega arith) c.window_slot.ensures c.if-window_slot.false

pub returns : goal.returns
returns c =
    let ready = ready_begun _ _ _ _ _ _ _ _ _ _ c.requires.0 c.begin_window.ensures in
    passed_entry _ _ _ _ _ _ _ (filled_by _ c.requires.1) _ _ _ _ c.requires.0 c.begin_window.ensures _ _
    (passed_end _ _ _ _ _ _ _ _ _ _ ready _ _ _ c.loop-u.invariant _ (omega arith)
    c.end_pass.ensures)
