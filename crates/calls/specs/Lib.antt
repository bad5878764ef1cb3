-- The first of 12, 14, 6, 7 and 8 of a call. Definitions only.
pub mod Call
