-- `account::put_walks` meets its contract. The loop's invariant: the lines of the walks from i on are left, and the way buffer begins with
-- the walk before.
-- Assumes nothing.
use native.Mathlib.Omega.{arith}
use Rattle.text.proofs.PieceLaws.{piece_next, piece_all}
use Rattle.account.proofs.ListedLaws.{listed_next, listed_line, listed_writable}
use Rattle.account.proofs.put_walks.Goals as goal

pub put_walk-end-requires : goal.put_walk-end-requires
put_walk-end-requires c =
    let loop = c.loop-i in
    listed_writable _ _ _ _ _ _ _ _ c.requires _ _ loop.invariant.1 (omega arith) _ c.go_on.ensures _ _ loop.invariant.0

pub loop-i-preserved : goal.loop-i-preserved
loop-i-preserved c =
    let loop = c.loop-i in
    let moved = c.go_on in
    let line = listed_line _ _ _ _ _ _ _ _ c.requires _ _ loop.invariant.1 (omega arith) _ moved.ensures in (
      piece_next _ _ _ _ _ _ _ _ loop.invariant.0 (omega arith) _ _ (rw line at c.put_walk-end.ensures),
      listed_next _ _ _ _ _ _ _ _ c.requires _ _ loop.invariant.1 (omega arith) _ moved.ensures moved.auto.way,
    )

pub returns : goal.returns
returns c = piece_all _ _ _ _ _ _ _ _ c.loop-i.invariant.0 (omega arith)
