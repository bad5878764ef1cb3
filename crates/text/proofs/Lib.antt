-- what writing bytes into a buffer leaves
pub mod WrittenLaws
-- how many digits a number has, and that they read back as the number
pub mod DecimalLaws
pub mod PutLaws
pub mod GoingLaws
pub mod FieldLaws
pub mod PieceLaws
-- the digits of a number are those of its tenth, then the last one
mod DivisionLaws
