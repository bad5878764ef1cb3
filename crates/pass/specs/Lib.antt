-- What the inner functions of the pass leave, on flat lists, and what the pass promises.
pub mod Row
pub mod Entry
pub mod Sweep
pub mod Column
pub mod PassedColumns
