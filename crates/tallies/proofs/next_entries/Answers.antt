-- `tallies::next_entries` meets its contract.
-- Assumes nothing.
use Rattle.tallies.proofs.LaneLaws.{entries_none, entries_known}
use Rattle.tallies.proofs.next_entries.Goals as goal

pub returns-then-known : goal.returns-then-known
returns-then-known c = entries_known _ _ _ _ _ c.entries_for.ensures

pub returns : goal.returns
returns c = entries_none _ _ _ _ c.if-known.false
