-- What the functions that judge a list of positions answer. Definitions only.
pub mod Legs
pub mod Judge
