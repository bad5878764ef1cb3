-- P1 to P10 of document 01, restated for doubled plans, as one table of questions to the operations with their answers. Definitions only.
pub mod Questions
pub mod Table
