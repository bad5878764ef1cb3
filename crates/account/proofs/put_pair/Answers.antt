-- `account::put_pair` meets its contract: the completion table, then the line, the walks and how many more there are.
-- Assumes nothing.
use Rattle.account.proofs.PairTextLaws.{pair_line_room, pair_walks_writable, pair_more_room, pair_written}
use Rattle.account.proofs.put_pair.Goals as goal

pub put_pair_line-a-requires : goal.put_pair_line-a-requires
put_pair_line-a-requires c =
    pair_line_room _ _ _ _ _ _ _ _ _ c.args.out.now c.requires

pub put_walks-b-requires : goal.put_walks-b-requires
put_walks-b-requires c =
    rw c.min-most.ensures
    (pair_walks_writable _ _ _ _ _ _ _ _ _ c.args.out.now c.requires _ _ c.put_pair_line-a.ensures _
    c.complete.ensures)

pub put_more-requires : goal.put_more-requires
put_more-requires c =
    rw c.min-most.ensures
    (pair_more_room _ _ _ _ _ _ _ _ _ c.args.out.now c.requires _ _ c.put_pair_line-a.ensures _ _
    (rw c.min-most.ensures at c.put_walks-b.ensures))

pub returns : goal.returns
returns c =
    let most = c.min-most.ensures in
    pair_written _ _ _ _ _ _ _ _ _ c.args.out.now c.requires _ _ c.put_pair_line-a.ensures _ _
    (rw most at c.put_walks-b.ensures) _ _ (rw most at c.put_more.ensures)
