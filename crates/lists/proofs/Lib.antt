-- Laws of the words of temporal's specs/Lists.antt, of options and of buffers. They know nothing of walks.
pub mod ListLaws
pub mod OptionLaws
pub mod BufferLaws
