-- `ways::fold_back` meets its contract: one entry is lowered by an entry of the record's slot.
-- Assumes nothing.
use native.Mathlib.Omega.{arith}
use Rattle.ways.proofs.ColumnLaws.{read_room, folded_by}
use Rattle.ways.proofs.fold_back.Goals as goal

pub overflow_mul-at : goal.overflow_mul-at
overflow_mul-at c =
    let room = read_room _ _ _ _ _ c.requires c.contact_at-c.ensures in
    omega (arith, room.0, c.well_formed.0.0)

pub overflow_mul-from : goal.overflow_mul-from
overflow_mul-from c =
    let room = read_room _ _ _ _ _ c.requires c.contact_at-c.ensures in
    omega (arith, room.1, c.well_formed.0.0)

pub overflow_add-from : goal.overflow_add-from
overflow_add-from c =
    let read = c.contact_at-c.ensures in
    let room = read_room _ _ _ _ _ c.requires read in
    omega (arith, room.1, c.well_formed.0.0)

pub lower-requires : goal.lower-requires
lower-requires c =
    read_room _ _ _ _ _ c.requires
    c.contact_at-c.ensures

pub returns : goal.returns
returns c =
    let read = c.contact_at-c.ensures in
    folded_by _ _ _ _ _ c.requires read _
    c.lower.ensures
