-- What the operation on a pair and a set answers, in the papers' numbers, and what its inner functions ask. Definitions only.
pub mod Answer
pub mod Work
