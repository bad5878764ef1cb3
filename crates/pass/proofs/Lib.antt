-- what the inner functions leave: rows, entries, places of the work area
pub mod RowLaws
pub mod EntryLaws
pub mod PlaceLaws
-- an entry against sequences of numbers of walks, columns, every place after a change, and the state of the work area
pub mod BestLaws
pub mod NearLaws
pub mod ColumnLaws
pub mod TookLaws
pub mod MaskLaws
pub mod WidthLaws
pub mod StateLaws
pub mod SettleLaws
-- the sequences of a plan, the beginning and the end of the pass, and its loop
pub mod PlanWalks
pub mod BeginLaws
pub mod EndLaws
pub mod ReachLaws
pub mod MoveLaws
pub mod PassLaws
