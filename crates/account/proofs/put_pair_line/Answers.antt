-- `account::put_pair_line` meets its contract: the ends and hops, then the counts and the share.
-- Assumes nothing.
use Rattle.text.specs.Field.{ascii, line_feed, fields, labelled}
use Rattle.text.proofs.PutLaws.{room_first, room_rest, put_both}
use Rattle.account.specs.Account.{pair_line}
use Rattle.account.proofs.put_pair_line.Goals as goal

pub put_labelled-end-requires : goal.put_labelled-end-requires
unfolding pair_line
put_labelled-end-requires c =
    let f = c.args.f in
    room_first c.args.at (labelled (ascii "from ") f.source (ascii " to ") f.destination (ascii " hops ") f.hops (ascii " through "))
    (fields f.through (ascii " count ") f.count (ascii " share ") f.share line_feed) c.args.out.now c.requires

pub put_fields-requires : goal.put_fields-requires
unfolding pair_line
put_fields-requires c =
    let f = c.args.f in
    room_rest c.args.at (labelled (ascii "from ") f.source (ascii " to ") f.destination (ascii " hops ") f.hops (ascii " through "))
    (fields f.through (ascii " count ") f.count (ascii " share ") f.share line_feed) c.args.out.now c.requires _ _
    c.put_labelled-end.ensures

pub returns : goal.returns
unfolding pair_line
returns c =
    let f = c.args.f in
    put_both c.args.at (labelled (ascii "from ") f.source (ascii " to ") f.destination (ascii " hops ") f.hops (ascii " through "))
    (fields f.through (ascii " count ") f.count (ascii " share ") f.share line_feed) c.args.out.now c.requires _ _
    c.put_labelled-end.ensures _ _ c.put_fields.ensures
