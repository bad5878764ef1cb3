-- `stale::push_entry` meets its contract.
-- Assumes nothing.
use Rattle.std.proofs.Common.{arith}
use Rattle.stale.proofs.RingPlaces.{area_same, ring_heard, number_inside, number_place_law}
use Rattle.stale.proofs.WindowSteps.{number_fits, entry_by}
use Rattle.stale.proofs.push_entry.Goals as goal

pub empty_entry-requires : goal.empty_entry-requires
empty_entry-requires c =
    let area = c.requires.0 in (
      omega (
        arith,
        number_place_law c.args.n c.args.depth area.some c.args.k,
        c.number_place-place.ensures,
      ),
      omega (arith, number_fits area _ _ c.number_part-part.ensures),
    )

pub take-requires : goal.take-requires
take-requires c =
    let area = c.requires.0 in (
      rw (c.number_part-part.ensures, c.part_size-size.ensures)
          (ring_heard (area_same area c.empty_entry.auto.work) _
          (omega (arith, number_inside _ _ area.some c.args.k area.deep))),
      omega (arith, number_place_law c.args.n c.args.depth area.some c.args.k, c.number_place-place.ensures),
      c.requires.1,
      omega arith,
    )

pub returns : goal.returns
returns c =
    entry_by _ _ _ _ _ _ _ _ _ _ _ c.number_part-part.ensures c.number_place-place.ensures c.part_size-size.ensures
    c.empty_entry.ensures c.take.ensures
