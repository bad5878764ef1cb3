-- `pair::store` meets its contract. The loop's invariant: the first j stations of the block are stored.
-- Assumes nothing.
use native.Mathlib.Omega.{arith}
use Rattle.pair.proofs.ThroughLaws.{stored_none, stored_more, stored_all}
use Rattle.pair.proofs.store.Goals as goal

pub loop-j-init : goal.loop-j-init
loop-j-init c = (omega arith, stored_none _ _ _ _ _ _)

pub through_at-requires : goal.through_at-requires
through_at-requires c =
    record {
      station = c.requires.station;
      few = c.requires.few;
      column = c.loop-j-test.true;
      stations = c.requires.stations;
      fits = c.requires.fits;
      at_most = c.requires.at_most _ c.loop-j-test.true;
    }

pub loop-j-preserved : goal.loop-j-preserved
loop-j-preserved c = (
  omega arith,
  stored_more _ _ _ _ _ _ _ _ _ c.loop-j-test.true c.requires.stations c.requires.table
      c.through_at.ensures c.loop-j.invariant.1,
)

pub shape_of-through : goal.shape_of-through
shape_of-through c = c.loop-j.invariant.1.same_length

pub returns : goal.returns
returns c = stored_all _ _ _ _ _ _ _ _ c.loop-j.invariant.0 (omega arith) c.loop-j.invariant.1
