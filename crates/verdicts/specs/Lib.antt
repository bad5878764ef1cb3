-- What the operation that judges a list answers, in the papers' numbers, and what its inner functions ask. Definitions only.
pub mod Answer
pub mod Work
