-- `report::put_refusal` meets its contract: the word, then the number with the line's end.
-- Assumes nothing.
use Rattle.text.proofs.PutLaws.{room_first, room_rest, put_both}
use Rattle.text.specs.Field.{field, ascii, line_feed}
use Rattle.report.specs.Report.{refusal_text}
use Rattle.report.proofs.put_refusal.Goals as goal

pub put_bytes-end-requires : goal.put_bytes-end-requires
unfolding refusal_text
put_bytes-end-requires c =
    let a = c.args in
    room_first a.at (ascii "refused ") (field a.k line_feed) a.out.now c.requires

pub put_field-requires : goal.put_field-requires
unfolding refusal_text
put_field-requires c =
    let a = c.args in
    room_rest a.at (ascii "refused ") (field a.k line_feed) a.out.now c.requires _ _ c.put_bytes-end.ensures

pub returns : goal.returns
unfolding refusal_text
returns c =
    let a = c.args in
    put_both a.at (ascii "refused ") (field a.k line_feed) a.out.now c.requires _ _ c.put_bytes-end.ensures _ _
    c.put_field.ensures
