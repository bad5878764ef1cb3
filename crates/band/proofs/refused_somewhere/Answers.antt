-- `band::refused_somewhere` meets its contract. The loop's invariant: the answer from here on is the whole answer.
-- Assumes nothing.
use Prim.Native.Nat.{◌<◌}
use native.Mathlib.Omega.{arith}
use mathlib.Core.Path.{sym}
use Rattle.std.proofs.lemmas.List.{length-take-le, get_or-take}
use Rattle.band.proofs.SlotWalk.{standing_position, slot_few}
use Rattle.band.proofs.TakingLaws.{looking_none, looking_found, looking_more, looking_all}
use Rattle.band.proofs.refused_somewhere.Goals as goal

pub loop-j-init : goal.loop-j-init
loop-j-init c = looking_none _ _ _ c.requires

pub slot_end-end-requires : goal.slot_end-end-requires
slot_end-end-requires c = standing_position _ _ _ c.loop-j.invariant.standing

pub refuses-requires : goal.refuses-requires
refuses-requires c =
    slot_few _ c.requires.slotted _ _ c.loop-j.invariant.standing _ c.slot_end-end.ensures

pub returns-then-refuses : goal.returns-then-refuses
returns-then-refuses c =
    let less : c.loop-j.j < 255 = omega (arith, length-take-le 255 c.args.table.now c.requires.room) in
    let same = get_or-take 255 c.args.table.now c.loop-j.j 0 less in
    sym (looking_found _ _ _ c.requires _ _ c.loop-j.invariant less _ c.slot_end-end.ensures _
    (rw same at c.refuses.ensures) c.if-refuses.true)

pub loop-j-preserved : goal.loop-j-preserved
loop-j-preserved c =
    let less : c.loop-j.j < 255 = omega (arith, length-take-le 255 c.args.table.now c.requires.room) in
    let same = get_or-take 255 c.args.table.now c.loop-j.j 0 less in
    looking_more _ _ _ c.requires _ _ c.loop-j.invariant less _ c.slot_end-end.ensures _
    (rw same at c.refuses.ensures) c.if-refuses.false

pub returns : goal.returns
returns c = sym (looking_all _ _ _ c.requires _ _ c.loop-j.invariant (omega (arith, length-take-le 255 c.args.table.now c.requires.room)))
