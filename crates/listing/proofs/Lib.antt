-- how the operations begin, and what their work does
pub mod CallLaws
pub mod WorkLaws
