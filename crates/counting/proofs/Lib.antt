-- How many walks there are: counted by weights, the fewest hops of such a count, the recurrence by the last leg, and
-- through counts by what avoids a set of stations.
pub mod Weights
pub mod Fewest
pub mod Recurrence
pub mod WindowLaws
pub mod Through
-- loads and exact sums of shares
pub mod ExactSum
-- pairs and loads over the sources below k
pub mod PartialLaws
-- sums over lists
pub mod SumLaws
