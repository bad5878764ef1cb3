-- The demands hold.
-- demand 1
pub mod Demand1
-- the plans within the limits, and judging a call by its causes
mod LimitLaws
mod JudgedLaws
mod WayJudged
-- demand 3
mod CountLaws
mod AccountLaws
mod TracedLaws
mod TenLaws
pub mod Demand3
-- demand 2, and the lists that it is about
pub mod Demand2
mod ListedLaws
mod BetweenLaws
-- where nothing goes stale (C-21)
pub mod Kept
-- what the load programs print (C-20)
pub mod LoadText
-- C-12: a set of stations
pub mod Sets
-- C-14: shortest foremost paths
pub mod Foremost
-- C-15: every leg accounted
pub mod Account
-- C-18: partial loads
pub mod Partial
-- C-19: verdicts on lists
pub mod Verdicts
-- C-22: plans that share a band
pub mod Band
-- C-23: a contact struck out
pub mod Struck
-- C-24: loads for the drawing program
pub mod Drawn
-- the account of a station
mod EndsLaws
mod RefusalLaws
mod WhyRefusals
mod WhyText
pub mod Why
