-- What the functions for C give: the papers' number, the lent slots and the lent buffers. Definitions only.
pub mod Slots
pub mod Code
pub mod Reading
