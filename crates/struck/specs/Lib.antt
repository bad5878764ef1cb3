-- What the operation on a contact that is struck out answers, and what its inner functions ask and leave. Definitions only.
pub mod Answer
pub mod Work
