-- `drawn::draw_entry` meets its contract: the record of v ends before that of v + 1 begins.
-- Assumes nothing.
use native.Mathlib.Omega.{arith}
use Rattle.drawn.proofs.draw_entry.Goals as goal

pub draw_station-requires : goal.draw_station-requires
draw_station-requires c = record { at_in_bounds = omega (arith, c.requires.0.records_room); load_bound = (c.requires.0.loads_low _ c.requires.1, c.requires.0.pairs_low _ c.requires.1) }
