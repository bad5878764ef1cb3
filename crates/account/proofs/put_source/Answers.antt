-- `account::put_source` meets its contract. The loop's invariant: the texts of the pairs from destination z on are left.
-- Assumes nothing.
use native.Mathlib.Omega.{arith}
use Rattle.text.proofs.PieceLaws.{piece_next, piece_all}
use Rattle.account.proofs.SourceLaws.{lengths_next, between_next}
use Rattle.account.proofs.put_source.Goals as goal

pub put_between-end-requires : goal.put_between-end-requires
put_between-end-requires c =
    let loop = c.loop-z in
    between_next _ _ _ _ _ _ _ _ _ _ _ c.args.out.now _ _ _ _ _ loop.invariant.1 _ _ c.requires (omega arith) loop.invariant.0

pub loop-z-preserved : goal.loop-z-preserved
loop-z-preserved c =
    let loop = c.loop-z in
    let told = c.put_between-end in (
      piece_next _ _ _ _ _ _ _ _ loop.invariant.0 (omega arith) _ _ told.ensures,
      lengths_next loop.invariant.1 told.auto.through told.auto.way told.auto.work,
    )

pub returns : goal.returns
returns c = piece_all _ _ _ _ _ _ _ _ c.loop-z.invariant.0 (omega arith)
