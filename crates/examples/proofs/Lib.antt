-- P1 to P10 of document 01 hold
pub mod Examples
mod Computed
