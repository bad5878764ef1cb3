-- What follows from the definitions. Adequacy has the theorems by which a reader can trust them.
pub mod Adequacy
-- the busiest station
pub mod BusiestLaws
-- a set of stations
pub mod SetLaws
-- a plan without one of its records: positions, walks, loads
pub mod LackingPositions
pub mod StruckLaws
pub mod StruckLoads
-- shortest foremost paths
pub mod ForemostLaws
-- every hop accounted: what the through counts of a pair add up to
pub mod AccountLaws
-- the causes of refusal, what an accepted plan keeps, and what a check of a plan rests on
pub mod NumberLaws
pub mod EnteredLaws
pub mod Accepted
pub mod CheckLaws
-- verdicts, shortest lists, the two rules, walks and paths
pub mod VerdictLaws
pub mod ShortestLaws
pub mod GrownLaws
pub mod FewLaws
pub mod RuleLaws
pub mod WalkLaws
pub mod PathLaws
pub mod ReturnLaws
pub mod PlanLaws
-- bytes that keep every rule are accepted; plan bytes that lack a record
pub mod RulesKept
pub mod LackingLaws
