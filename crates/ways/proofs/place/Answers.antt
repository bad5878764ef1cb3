-- `ways::place` meets its contract: the entry that is written is what is found.
-- Assumes nothing.
use native.Mathlib.Omega.{arith}
use Rattle.ways.proofs.AdvanceLaws.{found_fits, placed_nothing, placed_found}
use Rattle.ways.proofs.place.Goals as goal

pub returns-in_default : goal.returns-in_default
returns-in_default c = placed_nothing _ _ _ _ _ _ _ c.found_behind.ensures c.in_default.is

pub overflow_cast-way : goal.overflow_cast-way
overflow_cast-way c = omega (arith, found_fits _ _ _ _ _ _ _ c.found_behind.ensures _ c.requires.searchable c.in-Some.is)

pub returns : goal.returns
returns c = placed_found _ _ _ _ _ _ _ c.found_behind.ensures _ c.in-Some.is
