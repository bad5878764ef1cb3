-- `text::put_field` meets its contract: the number, then what stands behind it.
-- Assumes nothing.
use Rattle.text.proofs.PutLaws.{room_first, room_rest, put_both}
use Rattle.text.specs.Decimal.{decimal}
use Rattle.text.specs.Field.{field}
use Rattle.text.proofs.put_field.Goals as goal

pub put_decimal-end-requires : goal.put_decimal-end-requires
unfolding field
put_decimal-end-requires c =
    let a = c.args in
    room_first a.at (decimal a.x) a.behind.now a.out.now c.requires

pub put_bytes-requires : goal.put_bytes-requires
unfolding field
put_bytes-requires c =
    let a = c.args in
    room_rest a.at (decimal a.x) a.behind.now a.out.now c.requires _ _ c.put_decimal-end.ensures

pub returns : goal.returns
unfolding field
returns c =
    let a = c.args in
    put_both a.at (decimal a.x) a.behind.now a.out.now c.requires _ _ c.put_decimal-end.ensures _ _
    c.put_bytes.ensures
