-- `account::put_leg` meets its contract: three numbers, and what stands behind the leg.
-- Assumes nothing.
use Rattle.account.proofs.LegLaws.{leg_last, leg_more, leg_last_room, leg_more_room}
use Rattle.account.proofs.put_leg.Goals as goal

pub put_fields-requires : goal.put_fields-requires
put_fields-requires c =
    leg_last_room _ _ _ _ _ c.lowered_contact-c.ensures _ c.args.out.now c.if-last.true c.requires.0

pub returns-then-last : goal.returns-then-last
returns-then-last c =
    leg_last _ _ _ _ _ c.lowered_contact-c.ensures _ _ _ _
    c.if-last.true c.put_fields.ensures

pub put_fields-requires-2 : goal.put_fields-requires-2
put_fields-requires-2 c =
    leg_more_room _ _ _ _ _ c.lowered_contact-c.ensures _ c.args.out.now c.if-last.false c.requires.0

pub returns : goal.returns
returns c =
    leg_more _ _ _ _ _ c.lowered_contact-c.ensures _ _ _ _
    c.if-last.false c.put_fields-2.ensures
