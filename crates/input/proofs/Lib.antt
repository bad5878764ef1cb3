-- what the answer to a read is
mod PartLaws
