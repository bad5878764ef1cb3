-- What reach answers. Definitions only.
pub mod Answer
