-- Bytes written into a buffer, and numbers as decimal digits. Definitions only.
pub mod Written
pub mod Decimal
pub mod Field
pub mod Pieces
