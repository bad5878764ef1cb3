-- Several counts in one entry. Definitions only; they serve inner contracts.
pub mod Lane
