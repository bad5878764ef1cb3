-- `ways::store_back` meets its contract: one entry is copied to the record's slot.
-- Assumes nothing.
use native.Mathlib.Omega.{arith}
use Rattle.ways.proofs.ColumnLaws.{read_room, stored_by}
use Rattle.ways.proofs.store_back.Goals as goal

pub overflow_mul-from : goal.overflow_mul-from
overflow_mul-from c =
    let room = read_room _ _ _ _ _ c.requires c.contact_at-c.ensures in
    omega (arith, room.1, c.well_formed.0.0)

pub overflow_mul-at : goal.overflow_mul-at
overflow_mul-at c =
    let room = read_room _ _ _ _ _ c.requires c.contact_at-c.ensures in
    omega (arith, room.1, c.well_formed.0.0)

pub overflow_add-at : goal.overflow_add-at
overflow_add-at c =
    let read = c.contact_at-c.ensures in
    let room = read_room _ _ _ _ _ c.requires read in
    omega (arith, room.1, c.well_formed.0.0)

pub bounds-work-from : goal.bounds-work-from
bounds-work-from c =
    let read = c.contact_at-c.ensures in
    let room = read_room _ _ _ _ _ c.requires read in
    omega (arith, room.1)

pub bounds-work-at : goal.bounds-work-at
bounds-work-at c =
    let read = c.contact_at-c.ensures in
    let room = read_room _ _ _ _ _ c.requires read in
    omega (arith, room.1)

pub returns : goal.returns
returns c =
    stored_by _ _ _ _ _ c.requires
    c.contact_at-c.ensures
