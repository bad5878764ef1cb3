-- `text::put_fields` meets its contract: three numbers, one behind the other.
-- Assumes nothing.
use Rattle.text.specs.Field.{field, fields}
use Rattle.text.proofs.PutLaws.{room_first_of_three, room_second_of_three, room_third_of_three, put_three}
use Rattle.text.proofs.put_fields.Goals as goal

pub put_field-first-requires : goal.put_field-first-requires
unfolding fields
put_field-first-requires c =
    let a = c.args in
    room_first_of_three a.at (field a.x a.a.now) (field a.y a.b.now) (field a.z a.c.now) a.out.now c.requires

pub put_field-second-requires : goal.put_field-second-requires
unfolding fields
put_field-second-requires c =
    let a = c.args in
    room_second_of_three a.at (field a.x a.a.now) (field a.y a.b.now) (field a.z a.c.now) a.out.now c.requires _ _
    c.put_field-first.ensures

pub put_field-requires : goal.put_field-requires
unfolding fields
put_field-requires c =
    let a = c.args in
    room_third_of_three a.at (field a.x a.a.now) (field a.y a.b.now) (field a.z a.c.now) a.out.now c.requires _ _
    c.put_field-first.ensures _ _ c.put_field-second.ensures

pub returns : goal.returns
unfolding fields
returns c =
    let a = c.args in
    put_three a.at (field a.x a.a.now) (field a.y a.b.now) (field a.z a.c.now) a.out.now c.requires _ _
    c.put_field-first.ensures _ _ c.put_field-second.ensures _ _ c.put_field.ensures
