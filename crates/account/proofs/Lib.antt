-- The laws of the account.
mod LegLaws
pub mod WalkLaws
pub mod ListedLaws
-- the text of a pair, read from the layered plan; all pairs of the station
pub mod PairTextLaws
pub mod LayeredText
pub mod BetweenLaws
pub mod SourceLaws
-- how long the text can be, what is refused, and the whole text
pub mod LengthLaws
pub mod RefusedLaws
pub mod AccountedLaws
