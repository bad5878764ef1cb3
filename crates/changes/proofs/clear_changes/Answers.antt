-- `changes::clear_changes` meets its contract: the entries that are filled, and those behind them.
-- Assumes nothing.
use Rattle.changes.proofs.ChangeLaws.{zeros_filled}
use Rattle.changes.proofs.clear_changes.Goals as goal

pub returns : goal.returns
returns c = zeros_filled _ _ _ c.requires (c.fill.ensures.after (λ _ e. e))
