-- What the tallies ask and promise, and what the entries hold on the way. Definitions only.
pub mod Tally
pub mod Progress
pub mod Sources
