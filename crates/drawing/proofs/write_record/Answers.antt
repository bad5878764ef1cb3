-- `drawing::write_record` meets its contract: the station, and a double behind it, and a double behind that.
-- Assumes nothing.
use Rattle.std.proofs.Common.{◌∙◌, arith}
use Rattle.drawing.specs.Doubles.{drawn_bytes}
use Rattle.drawing.proofs.ByteLaws.{word_stored}
use Rattle.drawing.proofs.RecordLaws.{length_station, length_begun, record_stores, length_written}
use Rattle.drawing.proofs.write_record.Goals as goal

pub write_double-requires : goal.write_double-requires
write_double-requires c =
    let a = c.args in
    omega (
      arith,
      length_station a.records.now _ a.at a.drawn.station
          (word_stored _ _ _ _ (omega arith) (c.copy_from_slice.ensures.after ∙ c.to_be_bytes.ensures)),
    )

pub write_double-requires-2 : goal.write_double-requires-2
write_double-requires-2 c =
    let a = c.args in
    omega (
      arith,
      length_begun a.records.now _ _ a.at a.drawn.station _
          (word_stored _ _ _ _ (omega arith) (c.copy_from_slice.ensures.after ∙ c.to_be_bytes.ensures)) c.write_double.ensures,
    )

pub shape_of-records : goal.shape_of-records
shape_of-records c =
    let a = c.args in
    length_written a.records.now _ _ a.at a.drawn.station _
    (word_stored _ _ _ _ (omega arith) (c.copy_from_slice.ensures.after ∙ c.to_be_bytes.ensures)) c.write_double.ensures _ _
    c.write_double-2.ensures

pub returns : goal.returns
unfolding drawn_bytes
returns c =
    let a = c.args in
    record_stores a.records.now _ _ a.at a.drawn.station _
    (word_stored _ _ _ _ (omega arith) (c.copy_from_slice.ensures.after ∙ c.to_be_bytes.ensures)) c.write_double.ensures _ _
    c.write_double-2.ensures
