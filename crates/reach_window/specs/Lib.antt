-- What the functions leave that fill the tables where readings go stale, on flat lists. Definitions only.
pub mod Window
