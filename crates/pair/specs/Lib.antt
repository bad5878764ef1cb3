-- What pair answers, in document 01's numbers, and what its inner functions leave. Definitions only.
pub mod Answer
pub mod Throughs
