-- `drawing::draw_station` meets its contract: what is drawn has bits below the infinity's, so both doubles are numbers.
-- Assumes nothing.
use Rattle.std.proofs.Common.{ap, ◌∙◌, rules}
use lib.Seq.{sets}
use Rattle.drawing.proofs.RecordLaws.{drawn_numbers, drawn_bytes_law}
use Rattle.drawing.proofs.draw_station.Goals as goal

pub write_record-requires : goal.write_record-requires
write_record-requires c = record { at_in_bounds = search rules; no_nan = drawn_numbers _ _ _ _ c.drawn_of.ensures (search rules) (search rules) }

pub returns : goal.returns
returns c =
    let a = c.args in
    c.write_record.ensures ∙
    ap (λ b. sets a.records.now a.at b) (drawn_bytes_law _ _ _ _ c.drawn_of.ensures)
