-- `account::put_walk` meets its contract. The loop's invariant: the legs from k on are left.
-- Assumes nothing.
use native.Mathlib.Omega.{arith}
use Rattle.text.proofs.GoingLaws.{going_begin}
use Rattle.text.proofs.PieceLaws.{piece_room, piece_next, piece_all}
use Rattle.account.proofs.WalkLaws.{walk_begin_room, walk_legs_room, walk_written}
use Rattle.account.proofs.put_walk.Goals as goal

pub put_bytes-end-requires : goal.put_bytes-end-requires
put_bytes-end-requires c =
    walk_begin_room _ _ _ _ _ c.args.out.now c.requires

pub loop-k-init : goal.loop-k-init
loop-k-init c =
    going_begin _ _ _ (walk_legs_room _ _ _ _ _ c.args.out.now c.requires _ _ c.put_bytes-end.ensures)

pub put_leg-end-requires : goal.put_leg-end-requires
put_leg-end-requires c =
    rw c.from-q.ensures
    (piece_room _ _ _ _ _ _ _ _ c.loop-k.invariant (omega arith), c.requires.position _ (omega arith))

pub loop-k-preserved : goal.loop-k-preserved
loop-k-preserved c =
    piece_next _ _ _ _ _ _ _ _ c.loop-k.invariant (omega arith) _ _
    (rw c.from-q.ensures at c.put_leg-end.ensures)

pub returns : goal.returns
returns c =
    walk_written _ _ _ _ _ c.args.out.now c.requires _ _ c.put_bytes-end.ensures _ _
    (piece_all _ _ _ _ _ _ _ _ c.loop-k.invariant (omega arith))
