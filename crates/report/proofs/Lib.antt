-- The laws of the report.
pub mod SizeLaws
pub mod LengthLaws
pub mod ReportLaws
