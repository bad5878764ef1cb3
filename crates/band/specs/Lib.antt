-- What the two operations answer, in the papers' numbers, and what their inner functions ask and give. Definitions only.
pub mod Answer
pub mod Taking
