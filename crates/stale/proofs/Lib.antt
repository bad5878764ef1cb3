-- the depth of the ring, and how many columns fit
pub mod DepthLaws
pub mod SizeLaws
-- and without one of the records
pub mod LackingDepth
-- sums over cells that name numbers
mod SpreadLaws
-- where the parts, the marks of the cells and the heads lie
mod RingPlaces
-- what the functions of the pass leave, from what the functions that they call leave; cells of the work area
mod WindowSteps
mod WindowCells
-- the ring, and the numbers of a station in it
mod RingLaws
-- the windows, a slot, and the loop of the pass
mod WindowWalks
mod WindowSlots
mod WindowPass
