-- marks, a slot settled by its records, and the loop that fills the tables slot by slot
mod MarkLaws
mod OnceLaws
mod SweepLaws
mod SlotLaws
mod TrailLaws
mod SettleLaws
mod TurnLaws
