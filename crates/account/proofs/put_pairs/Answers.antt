-- `account::put_pairs` meets its contract. The loop's invariant: the texts of the pairs from source s on are left.
-- Assumes nothing.
use native.Mathlib.Omega.{arith}
use Rattle.text.proofs.GoingLaws.{going_begin}
use Rattle.text.proofs.PieceLaws.{piece_next, piece_all}
use Rattle.account.proofs.SourceLaws.{lengths_begin, lengths_next, source_next, pairs_room, pairs_written}
use Rattle.account.proofs.put_pairs.Goals as goal

pub loop-s-init : goal.loop-s-init
loop-s-init c =
    (going_begin _ _ _ (pairs_room _ _ _ _ _ _ _ _ _ _ _ c.args.out.now c.requires), lengths_begin _ _ _)

pub put_source-end-requires : goal.put_source-end-requires
put_source-end-requires c =
    let loop = c.loop-s in
    source_next _ _ _ _ _ _ _ _ _ _ _ c.args.out.now _ _ _ _ _ loop.invariant.1 _ c.requires (omega arith) loop.invariant.0

pub loop-s-preserved : goal.loop-s-preserved
loop-s-preserved c =
    let loop = c.loop-s in
    let told = c.put_source-end in (
      piece_next _ _ _ _ _ _ _ _ loop.invariant.0 (omega arith) _ _ told.ensures,
      lengths_next loop.invariant.1 told.auto.through told.auto.way told.auto.work,
    )

pub returns : goal.returns
returns c = pairs_written _ _ _ _ _ _ _ _ _ _ (piece_all _ _ _ _ _ _ _ _ c.loop-s.invariant.0 (omega arith))
