-- Hops and counts as an entry holds them. Definitions only; they serve inner contracts.
pub mod Entry
