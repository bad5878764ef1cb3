-- A slot settled for the hearers of its records, on flat lists. Definitions only.
pub mod Slot
