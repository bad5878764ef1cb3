-- What a table of changes holds afterwards, and what is asked of it and of the loads. Definitions only; they serve inner contracts.
pub mod Changes
