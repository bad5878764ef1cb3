-- `text::put_labelled` meets its contract: the label, then three numbers.
-- Assumes nothing.
use Rattle.text.specs.Field.{fields, labelled}
use Rattle.text.proofs.PutLaws.{room_first, room_rest, put_both}
use Rattle.text.proofs.put_labelled.Goals as goal

pub put_bytes-end-requires : goal.put_bytes-end-requires
unfolding labelled
put_bytes-end-requires c =
    let a = c.args in
    room_first a.at a.label.now (fields a.x a.a.now a.y a.b.now a.z a.c.now) a.out.now c.requires

pub put_fields-requires : goal.put_fields-requires
unfolding labelled
put_fields-requires c =
    let a = c.args in
    room_rest a.at a.label.now (fields a.x a.a.now a.y a.b.now a.z a.c.now) a.out.now c.requires _ _
    c.put_bytes-end.ensures

pub returns : goal.returns
unfolding labelled
returns c =
    let a = c.args in
    put_both a.at a.label.now (fields a.x a.a.now a.y a.b.now a.z a.c.now) a.out.now c.requires _ _
    c.put_bytes-end.ensures _ _ c.put_fields.ensures
