-- What the pass without rows asks and promises, and what its inner functions leave, on flat lists.
pub mod Key
pub mod Found
