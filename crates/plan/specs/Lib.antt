-- The faults' numbers, and what reading a record gives. Definitions only.
pub mod Fault
pub mod Record
pub mod Setting
