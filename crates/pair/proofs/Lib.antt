-- places in the work area, and the through counts of a pair
mod PlaceLaws
mod ThroughLaws
pub mod BlockLaws
pub mod BeginLaws
mod PairLaws
