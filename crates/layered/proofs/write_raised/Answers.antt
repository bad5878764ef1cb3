-- `layered::write_raised` meets its contract: the record is read, raised and written.
-- Assumes nothing.
use Rattle.layered.proofs.SlotLaws.{record_there, place_room, raised_found}
use Rattle.layered.proofs.write_raised.Goals as goal

pub contact_at-c-requires : goal.contact_at-c-requires
contact_at-c-requires c = record_there _ _ c.requires.there

pub write_record-requires : goal.write_record-requires
write_record-requires c =
    let pre = c.requires in (
      place_room c.args.plan.now c.args.out.now _ pre.plan.room pre.place,
      raised_found _ _ _ _ _ _ c.contact_at-c.ensures c.raise-r.ensures (pre.plan.contact _ pre.there)
          pre.plan.stations,
    )
