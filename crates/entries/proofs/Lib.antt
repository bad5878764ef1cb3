-- laws of counts as entries hold them, of an entry against a sequence of numbers of walks, of a search over entries, and of
-- the hops of walks
pub mod CountLaws
pub mod EntryLaws
pub mod SearchLaws
pub mod HopLaws
