-- the records of all stations, written one behind another
pub mod RecordsLaws
-- the operation
pub mod DrawnLaws
