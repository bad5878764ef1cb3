-- What loads for the drawing program answers, in the papers' numbers, and what its inner functions leave. Definitions only.
pub mod Answer
pub mod Work
