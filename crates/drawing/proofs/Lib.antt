-- figures of records by computation
pub mod RecordFigures
-- the bits of a share, in whole numbers
pub mod ShareLaws
-- the doubles that have these bits
pub mod DoubleLaws
-- a station's figures
pub mod FigureLaws
-- bytes and numbers
pub mod ByteLaws
-- records
pub mod RecordLaws
-- reading
pub mod ReadLaws
-- foreign records
pub mod ForeignLaws
