-- `account::put_more` meets its contract: a label, then the number.
-- Assumes nothing.
use Rattle.text.specs.Field.{ascii, line_feed, field}
use Rattle.text.proofs.PutLaws.{room_first, room_rest, put_both}
use Rattle.account.specs.Account.{more_line}
use Rattle.account.proofs.put_more.Goals as goal

pub put_bytes-end-requires : goal.put_bytes-end-requires
unfolding more_line
put_bytes-end-requires c =
    room_first c.args.at (ascii "  more ") (field c.args.m line_feed) c.args.out.now c.requires

pub put_field-requires : goal.put_field-requires
unfolding more_line
put_field-requires c =
    room_rest c.args.at (ascii "  more ") (field c.args.m line_feed) c.args.out.now c.requires _ _ c.put_bytes-end.ensures

pub returns : goal.returns
unfolding more_line
returns c =
    put_both c.args.at (ascii "  more ") (field c.args.m line_feed) c.args.out.now c.requires _ _ c.put_bytes-end.ensures _ _
    c.put_field.ensures
