-- the tallies lie within the work area
pub mod Sizes
-- sums over sources and destinations, and what one pair adds
pub mod TermLaws
mod AddLaws
-- columns of the pass's rows
mod LaneLaws
-- the work area from step to step, and the loops over stations and destinations
pub mod StateLaws
mod LoopLaws
-- blocks of stations, and sources
pub mod BlockLaws
pub mod SourceLaws
