-- `reach_entries::fold_record` meets its contract: a send from the record's sender to its hearer's appearance.
-- Assumes nothing.
use native.Mathlib.Omega.{arith}
use Rattle.reach_entries.proofs.PlaceLaws.{place_below, places_within, read_within, folded_by}
use Rattle.reach_entries.proofs.fold_record.Goals as goal

pub overflow_mul-c : goal.overflow_mul-c
overflow_mul-c c =
    let at = read_within _ _ _ _ _ _ _ c.requires c.contact_at-c.ensures in
    omega (arith, place_below _ _ _ _ _ at.hearer at.slot c.requires.fits.hops, c.well_formed.0.0)

pub overflow_add-c : goal.overflow_add-c
overflow_add-c c =
    let at = read_within _ _ _ _ _ _ _ c.requires c.contact_at-c.ensures in
    omega (arith, place_below _ _ _ _ _ at.hearer at.slot c.requires.fits.hops, c.well_formed.0.0)

pub send-requires : goal.send-requires
send-requires c =
    let at = read_within _ _ _ _ _ _ _ c.requires c.contact_at-c.ensures in
    places_within _ _ _ _ c.requires.fits _ _ _ at.hearer at.slot at.sender

pub returns : goal.returns
returns c = folded_by _ _ _ _ _ _ _ c.contact_at-c.ensures c.send.ensures
