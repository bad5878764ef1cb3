-- `reach_lasting::settle_slot` meets its contract: either way every hearer of the records has its appearance taken in.
-- Assumes nothing.
use Rattle.reach_lasting.proofs.SlotLaws.{slot_stations}
use Rattle.reach_lasting.proofs.settle_slot.Goals as goal

pub returns-then-n-end : goal.returns-then-n-end
returns-then-n-end c =
    slot_stations _ _ _ _ _ _ _ c.requires _ c.settle.ensures
