-- `judging::search_from` meets its contract: behind the leg before, if there is one.
-- Assumes nothing.
use Rattle.judging.proofs.LegLaws.{search_first, search_behind}
use native.Mathlib.Omega.{arith}
use Rattle.judging.proofs.search_from.Goals as goal

pub returns-then-k-eq0 : goal.returns-then-k-eq0
returns-then-k-eq0 c = search_first _ _ (omega arith)

pub returns : goal.returns
returns c = search_behind _ _ _ (omega arith) c.from.ensures
