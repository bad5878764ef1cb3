-- Every trace of first way and next way follows the cursor on the complete list, and what it gives from an accepted first way
-- on are the first ones of that list.
pub mod TraceFollows
pub mod TraceGives
-- the cursor over any list of walks, the lengths of buffers, and parts of traces
pub mod CursorLaws
pub mod LengthLaws
pub mod TraceParts
