-- What the load program forms from its input, and what it prints. Definitions only.
pub mod Sizes
pub mod Report
pub mod Work
