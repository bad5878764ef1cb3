pub mod FillLaws
mod CopyLaws
