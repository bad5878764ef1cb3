-- `band::change_all` meets its contract. The loop's invariant: the entries before j are written.
-- Assumes nothing.
use Prim.Native.Nat.{◌<◌}
use native.Mathlib.Omega.{arith}
use Rattle.std.proofs.lemmas.List.{length-take-le}
use Rattle.band.proofs.SlotWalk.{standing_position}
use Rattle.band.proofs.TakingLaws.{changing_none, changing_free, changing_more, changing_all, first_lent, first_free}
use Rattle.band.proofs.change_all.Goals as goal

pub loop-j-init : goal.loop-j-init
loop-j-init c = changing_none _ _ _ (first_lent _ _ c.requires.0) (first_free _ _ c.requires.0 _ c.requires.1)

pub slot_end-end-requires : goal.slot_end-end-requires
slot_end-end-requires c = standing_position _ _ _ c.loop-j.invariant.standing

pub changed-requires : goal.changed-requires
changed-requires c =
    let less : c.loop-j.j < 255 = omega (arith, length-take-le 255 c.args.table.now c.requires.0.room) in
    changing_free _ _ _ (first_lent _ _ c.requires.0) (first_free _ _ c.requires.0 _ c.requires.1) _ _ _ c.loop-j.invariant less _
    c.slot_end-end.ensures

pub loop-j-preserved : goal.loop-j-preserved
loop-j-preserved c =
    let less : c.loop-j.j < 255 = omega (arith, length-take-le 255 c.args.table.now c.requires.0.room) in
    changing_more _ _ _ (first_lent _ _ c.requires.0) (first_free _ _ c.requires.0 _ c.requires.1) _ _ _ c.loop-j.invariant less _
    c.slot_end-end.ensures _ c.changed.ensures

pub returns : goal.returns
returns c =
    changing_all _ _ c.requires.0 _ _ _ _ c.loop-j.invariant
    (omega (arith, length-take-le 255 c.args.table.now c.requires.0.room))
