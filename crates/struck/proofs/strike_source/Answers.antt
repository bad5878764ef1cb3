-- `struck::strike_source` meets its contract.
-- Assumes nothing.
use Rattle.struck.proofs.StrikeLaws.{one_over, one_compare, one_struck}
use Rattle.struck.proofs.strike_source.Goals as goal

pub tally_source-requires : goal.tally_source-requires
tally_source-requires c = (c.requires.0.without, c.requires.1)

pub returns-then-tally_source : goal.returns-then-tally_source
returns-then-tally_source c = one_over _ _ _ _ _ _ _ _ _ _ c.requires.0 _ (rw c.if-tally_source.true at c.tally_source.ensures)

pub compare_source-requires : goal.compare_source-requires
compare_source-requires c = one_compare _ _ _ _ _ _ _ _ _ _ c.requires.0 _ (rw c.if-tally_source.false at c.tally_source.ensures)

pub returns : goal.returns
returns c = one_struck _ _ _ _ _ _ _ _ _ _ c.requires.0 _ (rw c.if-tally_source.false at c.tally_source.ensures) _ _ c.compare_source.ensures
