-- laws that belong to no one function
pub mod Answers
pub mod SlotLaws
pub mod LimitLaws
pub mod OrderLaws
