-- `struck::strike_both` meets its contract.
-- Assumes nothing.
use Rattle.struck.proofs.ParkLaws.{both_with, both_over_with, both_without, both_over_without, both_pairs}
use Rattle.struck.proofs.strike_both.Goals as goal

pub tally_parked-requires : goal.tally_parked-requires
tally_parked-requires c =
    (both_with _ _ _ _ _ _ _ _ _ _ c.requires.0, c.requires.1.with_record)

pub returns-then-tally_parked : goal.returns-then-tally_parked
returns-then-tally_parked c = both_over_with _ _ _ _ _ _ _ _ _ _ c.requires.0 _ (rw c.if-tally_parked.true at c.tally_parked.ensures)

pub tally_parked-requires-2 : goal.tally_parked-requires-2
tally_parked-requires-2 c = (
  both_without _ _ _ _ _ _ _ _ _ _ c.requires.0 _ (rw c.if-tally_parked.false at c.tally_parked.ensures) _ c.copy_row.ensures,
  c.requires.1.without_record,
)

pub returns-then-tally_parked-2 : goal.returns-then-tally_parked-2
returns-then-tally_parked-2 c = both_over_without _ _ _ _ _ _ _ _ _ _ c.requires.0 _ (rw c.if-tally_parked.false at c.tally_parked.ensures) _ c.copy_row.ensures _ (rw c.if-tally_parked-2.true at c.tally_parked-2.ensures)

pub returns : goal.returns
returns c = both_pairs _ _ _ _ _ _ _ _ _ _ c.requires.0 _ (rw c.if-tally_parked.false at c.tally_parked.ensures) _ c.copy_row.ensures _ (rw c.if-tally_parked-2.false at c.tally_parked-2.ensures) _ c.count_differing.ensures
