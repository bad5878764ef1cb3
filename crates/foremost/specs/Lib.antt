-- What the operation on shortest foremost paths answers, in the papers' numbers, and what its inner functions leave. Definitions
-- only.
pub mod Answer
pub mod Work
