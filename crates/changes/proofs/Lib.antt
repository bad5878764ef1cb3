-- a table written entry by entry
mod WritingLaws
-- loads, differences and zeros written to it
mod ChangeLaws
-- differences taken from loads that were written before
pub mod WrittenLaws
