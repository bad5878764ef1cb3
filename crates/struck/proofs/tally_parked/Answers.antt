-- `struck::tally_parked` meets its contract.
-- Assumes nothing.
use Rattle.struck.proofs.ParkLaws.{park_source, park_over, park_done}
use Rattle.struck.proofs.tally_parked.Goals as goal

pub tally_source-requires : goal.tally_source-requires
tally_source-requires c =
    (park_source _ _ _ _ _ _ _ _ _ _ c.requires.0 _ c.copy_row.ensures, c.requires.1)

pub returns-then-tally_source : goal.returns-then-tally_source
returns-then-tally_source c = park_over _ _ _ _ _ _ _ _ _ _ c.requires.0 _ c.copy_row.ensures _ (rw c.if-tally_source.true at c.tally_source.ensures)

pub returns : goal.returns
returns c = park_done _ _ _ _ _ _ _ _ _ _ c.requires.0 _ c.copy_row.ensures _ (rw c.if-tally_source.false at c.tally_source.ensures) _ c.copy_row-2.ensures
