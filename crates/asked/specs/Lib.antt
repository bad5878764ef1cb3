-- What the arguments of a program ask for. Definitions only.
pub mod Asked
