-- What row gives. Definitions only.
pub mod Part
