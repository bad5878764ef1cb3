-- `account::go_on` meets its contract: the first walk, or the one after that with which the buffer begins.
-- Assumes nothing.
use native.Mathlib.Omega.{arith}
use Rattle.account.proofs.ListedLaws.{move_next, moved_next}
use Rattle.account.proofs.go_on.Goals as goal

pub next_path-requires : goal.next_path-requires
next_path-requires c =
    move_next _ _ _ c.args.way.now _ c.requires (omega arith)

pub returns-else-i-eq0 : goal.returns-else-i-eq0
returns-else-i-eq0 c =
    moved_next _ _ _ _ _ c.requires (omega arith) _ _ c.next_path.ensures
