-- how the operation begins, and what its work does
pub mod BeginLaws
pub mod WorkLaws
