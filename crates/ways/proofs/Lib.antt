-- What follows of the beginnings of shortest walks.
pub mod PrefixLaws
-- the completion table: fewest hops, walks from a position on, the table's columns, the pass, the pass by windows
mod FewestLaws
mod AheadLaws
mod ColumnLaws
mod PassLaws
mod WindowLaws
-- the order of lists, searches, buffers, and what the code's tests decide
pub mod OrderLaws
mod SearchLaws
pub mod ListingLaws
mod CodeLaws
mod AdvanceLaws
