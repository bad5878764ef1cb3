-- `reach_lasting::end_slot` meets its contract: where u is at least `wait` the slot that has waited is settled by its records.
-- Assumes nothing.
use native.Mathlib.Omega.{arith}
use Rattle.walks.proofs.Accepted.{accepted}
use Rattle.reach_lasting.proofs.SlotLaws.{ending_cursor, ending_settleable, ended_short, ended_long}
use Rattle.reach_lasting.proofs.end_slot.Goals as goal

pub returns-then-u-wait : goal.returns-then-u-wait
returns-then-u-wait c =
    ended_short _ _ _ _ _ _ _ c.requires c.if-u-wait.true

pub overflow_add-slot : goal.overflow_add-slot
overflow_add-slot c =
    omega (arith, (accepted _ _ _ c.requires.accepted).slots)

pub slot_end-end-requires : goal.slot_end-end-requires
slot_end-end-requires c =
    ending_cursor _ _ _ _ _ _ _ c.requires

pub settle_slot-requires : goal.settle_slot-requires
settle_slot-requires c =
    ending_settleable _ _ _ _ _ _ _ c.requires c.if-u-wait.false _
    c.slot_end-end.ensures

pub returns : goal.returns
returns c =
    ended_long _ _ _ _ _ _ _ c.requires c.if-u-wait.false _ _
    c.slot_end-end.ensures c.settle_slot.ensures
