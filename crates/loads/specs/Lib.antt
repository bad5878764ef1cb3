-- What loads and busiest answer, in document 01's numbers, and what their inner functions leave. Definitions only.
pub mod Answer
pub mod Largest
