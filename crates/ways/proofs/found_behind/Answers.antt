-- `ways::found_behind` meets its contract: where the entries before lead, and what the search finds from there.
-- Assumes nothing.
use mathlib.Core.Path.{sym}
use Rattle.ways.proofs.AdvanceLaws.{found_nowhere, found_there}
use Rattle.ways.proofs.found_behind.Goals as goal

pub returns-in_err-x : goal.returns-in_err-x
returns-in_err-x c = rw c.from_residual.ensures (found_nowhere _ _ _ _ _ _ _ c.end_of.ensures c.in_err-x.was)

pub returns : goal.returns
returns c = sym (found_there _ _ _ _ _ _ _ c.end_of.ensures _ c.in_ok-x.was _ c.find.ensures)
