-- laws of packed counts, over every width and number of lanes
pub mod LaneLaws
-- a lane by shifts
mod ShiftLaws
