-- the numbers are small, and row's part lies in the table
mod CodeLaws
mod RowLaws
-- the number and the hops slot tell the reply
pub mod Told
-- what read_record gives
mod ReadingLaws
