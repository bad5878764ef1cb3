-- going through a plan slot by slot
pub mod SlotWalk
-- what both operations do to an entry, to the table, and how they begin
mod TakingLaws
