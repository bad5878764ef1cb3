-- `tallies::base_of` meets its contract.
-- Assumes nothing.
use Rattle.tallies.specs.Tally.{tally_base}
use borrow.Author.Rules.{rules}
use Rattle.tallies.proofs.base_of.Goals as goal

pub returns : goal.returns
unfolding tally_base
returns c = search rules
