-- What the forward pass asks and what it promises.
pub mod Passed
