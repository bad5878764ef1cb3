-- What the demands say, each a record with a field for each part. Definitions only.
-- demand 1: the plans within the limits, the causes of each operation, and what is judged by them
pub mod Limits
pub mod Causes
pub mod Demand1
-- demand 3
pub mod Listing
pub mod PairLoads
pub mod Demand3
-- demand 2
pub mod Demand2
-- where nothing goes stale (C-21)
pub mod Kept
-- what the load programs print (C-20)
pub mod LoadText
-- C-12: a set of stations
pub mod Sets
-- C-14: shortest foremost paths
pub mod Foremost
-- C-15: every leg accounted
pub mod Account
-- C-18: partial loads
pub mod Partial
-- C-19: verdicts on lists
pub mod Verdicts
-- C-22: plans that share a band
pub mod Band
-- C-23: a contact struck out
pub mod Struck
-- C-24: loads for the drawing program
pub mod Drawn
-- the account of a station
pub mod Why
