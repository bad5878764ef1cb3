-- What the functions of this crate are said with. Definitions only.
pub mod Bytes
pub mod Doubles
pub mod Reading
