-- `stale::take_kept` meets its contract: before slot end, or not.
-- Assumes nothing.
use Rattle.std.proofs.Common.{arith}
use Rattle.stale.proofs.RingPlaces.{number_place_law}
use Rattle.stale.proofs.WindowSteps.{number_parts, kept_taken, kept_late}
use Rattle.stale.proofs.take_kept.Goals as goal

pub take-requires : goal.take-requires
take-requires c =
    let area = c.requires.0 in (
      number_parts area _ _ _ c.requires.1 c.number_part-part.ensures,
      c.requires.2,
      omega (arith, number_place_law c.args.n c.args.depth area.some c.args.k, c.number_place-place.ensures),
      omega arith,
    )

pub returns-then-slot-end : goal.returns-then-slot-end
returns-then-slot-end c =
    kept_taken _ _ _ _ _ _ _ _ _ _ _ _ (omega arith) c.number_part-part.ensures c.number_place-place.ensures c.take.ensures

pub returns-else-slot-end : goal.returns-else-slot-end
returns-else-slot-end c = kept_late _ _ _ _ _ _ _ _ _ (omega arith)
