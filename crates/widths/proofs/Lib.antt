-- keys, and the splits of several sources in one word
mod KeyLaws
mod CellLaws
mod PackLaws
mod SettleKeys
mod BeginKeys
mod CodeLaws
mod RunLaws
pub mod NarrowLaws
