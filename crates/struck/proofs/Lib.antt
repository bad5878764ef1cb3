-- two plans' hops and counts beside each other, for one source
mod CompareLaws
-- the loop over sources
mod StrikeLaws
-- both plans' tallies beside each other
mod ParkLaws
-- the operation
mod StruckLaws
