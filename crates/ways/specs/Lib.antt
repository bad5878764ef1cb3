-- What the completion table holds, what a prefix and the next one are, and what the inner functions leave. Definitions
-- only.
pub mod Home
pub mod Column
pub mod Window
pub mod Prefix
pub mod Found
