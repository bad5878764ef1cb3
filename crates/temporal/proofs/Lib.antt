-- Figures of small plans by computation from the definitions: each definition that a wrong one could replace has a figure that tells
-- the two apart. The laws of the definitions are in the crates lists and walks.
-- an accepted plan
pub mod AcceptanceFigures
-- walks, shortest walks, loads, sets, turnarounds, shortest foremost paths and verdicts
pub mod Figures
-- readings that go stale
pub mod FreshFigures
-- every hop accounted: what the through counts of a pair add up to
pub mod AccountFigures
-- the busiest station
pub mod BusiestFigures
-- plans that share a band
pub mod BandFigures
-- a contact struck out
pub mod StruckFigures
-- the first cause of a list, which a figure about any plan cites
pub mod CauseLaws
-- lists in order, strictly later slots, stations visited twice, and causes 2 and 3
pub mod RuleFigures
