-- The layered plan of a station, and what writing it asks. Definitions only; what follows from them is in proofs/.
pub mod Layered
pub mod Writing
