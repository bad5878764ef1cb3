-- The account of a station: its text, and what the functions that write it ask. Definitions only.
pub mod Account
pub mod Work
pub mod Whole
