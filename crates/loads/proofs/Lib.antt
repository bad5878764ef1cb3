-- a search for the largest, and what loads and busiest leave
mod LargestLaws
pub mod LoadLaws
