-- `reach_window::fold_window` meets its contract: the window is gathered, then the record is folded in.
-- Assumes nothing.
use Rattle.reach_entries.proofs.PlaceLaws.{read_within}
use Rattle.reach_window.proofs.WindowLaws.{window_folded_by}
use Rattle.reach_window.proofs.fold_window.Goals as goal

pub gather_window-requires : goal.gather_window-requires
gather_window-requires c =
    let at = read_within _ _ _ _ _ _ _ c.requires.0 c.contact_at-c.ensures in
    (c.requires.0.fits, at.sender, at.slot, c.requires.1)

pub returns : goal.returns
returns c =
    window_folded_by _ _ _ _ _ _ _ _ _ c.contact_at-c.ensures c.gather_window.ensures c.fold_record.ensures
