-- The laws of neighbouring ways, and of what a search tells.
pub mod NeighbourLaws
pub mod LegLaws
pub mod FollowLaws
pub mod WayLaws
pub mod JudgeLaws
