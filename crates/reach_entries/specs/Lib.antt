-- The tables of reach as the code holds them, what the functions on them leave, and what filling them promises. Definitions only.
pub mod Table
pub mod Pass
