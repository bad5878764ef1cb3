-- what merging, sending and settling an entry leave, and the state of the tables: at the begin, after a record, and at the end
pub mod MergeLaws
pub mod PlaceLaws
mod PassLaws
pub mod EntryLaws
pub mod TableLaws
pub mod StateLaws
pub mod FoldLaws
pub mod EndLaws
