-- What first way and next way answer, and what their inner functions ask and leave. Definitions only.
pub mod Answer
pub mod Work
