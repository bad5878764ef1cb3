-- `reach_entries::begin` meets its contract: four fills, and the source's entries.
-- Assumes nothing.
use native.Mathlib.Omega.{arith}
use Rattle.reach_entries.proofs.PlaceLaws.{place_below}
use Rattle.reach_entries.proofs.PassLaws.{begun_by}
use Rattle.reach_entries.proofs.begin.Goals as goal

pub overflow_mul-at : goal.overflow_mul-at
overflow_mul-at c = omega (arith, place_below _ _ _ _ _ c.requires.1 c.requires.2 c.requires.0.hops, place_below _ _ _ _ _ c.requires.1 c.requires.2 c.requires.0.counts, c.well_formed.0.0, c.well_formed.0.1, c.well_formed.1.0.1, c.fill.auto.table, c.fill-2.auto.table)

pub bounds-hops-at : goal.bounds-hops-at
bounds-hops-at c = omega (arith, place_below _ _ _ _ _ c.requires.1 c.requires.2 c.requires.0.hops, place_below _ _ _ _ _ c.requires.1 c.requires.2 c.requires.0.counts, c.well_formed.0.0, c.well_formed.0.1, c.well_formed.1.0.1, c.fill.auto.table, c.fill-2.auto.table)

pub bounds-counts-at : goal.bounds-counts-at
bounds-counts-at c = omega (arith, place_below _ _ _ _ _ c.requires.1 c.requires.2 c.requires.0.hops, place_below _ _ _ _ _ c.requires.1 c.requires.2 c.requires.0.counts, c.well_formed.0.0, c.well_formed.0.1, c.well_formed.1.0.1, c.fill.auto.table, c.fill-2.auto.table)

pub returns : goal.returns
returns c =
    begun_by _ _ _ _ _ _ _ _ c.fill.ensures c.fill-2.ensures c.fill-3.ensures
    c.fill-4.ensures
