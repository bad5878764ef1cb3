-- `struck::strike` meets its contract.
-- Assumes nothing.
use native.Mathlib.Omega.{arith}
use Rattle.walks.proofs.Accepted.{accepted}
use Rattle.struck.proofs.StrikeLaws.{strike_depth, strike_lent, strike_ready, struck_entry}
use Rattle.struck.proofs.strike.Goals as goal

pub depth-depth-requires : goal.depth-depth-requires
depth-depth-requires c = strike_depth _ _ _ _ _ _ c.requires

pub overflow_add-t : goal.overflow_add-t
overflow_add-t c = omega (arith, (accepted _ _ _ c.requires.accepted).slots)

pub overflow_mul-t : goal.overflow_mul-t
overflow_mul-t c = omega (arith, (accepted _ _ _ c.requires.accepted).slots)

pub most_columns-block-requires : goal.most_columns-block-requires
most_columns-block-requires c = strike_lent _ _ _ _ _ _ c.requires _ _ c.depth-depth.ensures

pub base_of-base-requires : goal.base_of-base-requires
base_of-base-requires c = let a = accepted _ _ _ c.requires.accepted in (a.stations, a.slots)

pub strike_sources-requires : goal.strike_sources-requires
strike_sources-requires c = strike_ready _ _ _ _ _ _ c.requires _ _ c.depth-depth.ensures _ _ c.most_columns-block.ensures c.base_of-base.ensures

pub returns : goal.returns
returns c = struck_entry _ _ _ _ _ _ c.requires _ _ c.depth-depth.ensures _ _ _ c.strike_sources.ensures
