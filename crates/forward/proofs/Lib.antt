-- the uses of the pass: a block of stations and a set; how many columns fit
pub mod UseLaws
pub mod SizeLaws
-- the pass without rows, for several sources at once
pub mod WidthLaws
