-- figures of a small plan by computation
pub mod LayeredFigures
-- positions of the plan and of the layered plan
pub mod PositionLaws
-- the layered plan's records, and that it is accepted
pub mod RecordLaws
pub mod AcceptedLaws
-- what writing it rests on
pub mod WritingLaws
pub mod SlotLaws
pub mod LayeringLaws
-- two rising lists with the same members; the plan's walks in the layered plan, and its shortest walks through the station
pub mod RisingLaws
pub mod LiftLaws
pub mod ThroughLaws
