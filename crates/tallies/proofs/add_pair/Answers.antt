-- `tallies::add_pair` meets its contract: nothing for the destination itself or where no walk has the station inside, else
-- one pair and its share.
-- Assumes nothing.
use native.Mathlib.Omega.{arith}
use Rattle.tallies.proofs.LaneLaws.{column_within, rows_before}
use Rattle.tallies.proofs.AddLaws.{added_destination, added_none, added_some}
use Rattle.tallies.proofs.add_pair.Goals as goal

pub returns-then-v-z : goal.returns-then-v-z
returns-then-v-z c = added_destination _ _ _ _ _ _ _ _ (omega arith)

pub column-requires : goal.column-requires
column-requires c = column_within c.requires (omega (arith, rows_before c.requires, c.requires.room.area, c.requires.room.fits, c.well_formed.0))

pub overflow_sub-through : goal.overflow_sub-through
overflow_sub-through c = rw c.column.ensures (c.requires.row (omega arith))

pub returns-then-through-eq0 : goal.returns-then-through-eq0
returns-then-through-eq0 c = added_none _ _ _ _ _ _ _ _ (omega arith) (omega (arith, c.column.ensures))

pub returns : goal.returns
returns c = added_some _ _ _ _ _ _ _ _ (omega arith) (omega (arith, c.column.ensures)) _ (rw c.column.ensures at c.share.ensures)
