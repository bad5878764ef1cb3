-- `stale::window_slot` meets its contract: the windows stop, or the three steps of a slot.
-- Assumes nothing.
use Rattle.stale.proofs.RingPlaces.{area_same, heard_windows}
use Rattle.stale.proofs.WindowSteps.{slot_stop, slot_by}
use Rattle.stale.proofs.window_slot.Goals as goal

pub returns-then-gather_records : goal.returns-then-gather_records
returns-then-gather_records c =
    slot_stop _ _ _ _ _ _ _ _ _ _ _ _ _ _ _ c.gather_records.ensures c.if-gather_records.true

pub send_records-requires : goal.send_records-requires
send_records-requires c = (
  rw (c.part_size-size.ensures, c.ring_at-base.ensures) (heard_windows (area_same c.requires.0 c.gather_records.auto.work)),
  c.requires.2,
)

pub returns : goal.returns
returns c =
    slot_by _ _ _ _ _ _ _ _ _ _ _ _ _ _ _ c.gather_records.ensures _ _ _ _ c.if-gather_records.false
    c.part_size-size.ensures c.ring_at-base.ensures c.send_records.ensures c.keep_records.ensures
