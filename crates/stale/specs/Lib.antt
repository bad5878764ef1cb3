-- The pass where readings go stale: how deep its ring is, how large its work area is, what its inner functions leave, on flat lists,
-- and what it asks.
pub mod Depth
pub mod Size
pub mod Window
