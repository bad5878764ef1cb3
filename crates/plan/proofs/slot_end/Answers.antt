-- `plan::slot_end` meets its contract: no record is left out.
-- Assumes nothing.
use Rattle.plan.proofs.SlotLaws.{whole_ready, whole_records}
use Rattle.plan.proofs.slot_end.Goals as goal

pub kept_slot_end-requires : goal.kept_slot_end-requires
kept_slot_end-requires c = whole_ready c.args.plan.now 0 _ c.requires

pub returns : goal.returns
returns c = whole_records _ _ _ _ c.kept_slot_end.ensures
