-- `report::put_lines` meets its contract. The loop's invariant: what is left has room, and written behind what stands it makes all
-- lines.
-- Assumes nothing.
use native.Mathlib.Omega.{arith}
use Rattle.text.proofs.GoingLaws.{going_begin}
use Rattle.text.proofs.PieceLaws.{piece_room, piece_next, piece_all}
use Rattle.report.proofs.put_lines.Goals as goal

pub loop-v-init : goal.loop-v-init
loop-v-init c = going_begin _ _ _ c.requires.text_room

pub put_line-end-requires : goal.put_line-end-requires
put_line-end-requires c = piece_room _ _ _ _ _ _ _ _ c.loop-v.invariant (omega arith)

pub loop-v-preserved : goal.loop-v-preserved
loop-v-preserved c =
    piece_next _ _ _ _ _ _ _ _ c.loop-v.invariant (omega arith) _ _
    c.put_line-end.ensures

pub shape_of-out : goal.shape_of-out
shape_of-out c = c.loop-v.invariant.same

pub returns : goal.returns
returns c = piece_all _ _ _ _ _ _ _ _ c.loop-v.invariant (omega arith)
