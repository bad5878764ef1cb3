-- `listing::first_cleared` meets its contract: the work, cleared after it, leaves what way_work names.
-- Assumes nothing.
use native.Mathlib.Omega.{arith}
use Rattle.walks.proofs.Accepted.{accepted}
use Rattle.listing.proofs.WorkLaws.{work_cleared}
use Rattle.listing.proofs.first_cleared.Goals as goal

pub clear_area-requires : goal.clear_area-requires
clear_area-requires c = (omega (arith, c.first_work-answer.ensures.same), (accepted _ _ _ c.requires.asked.accepted).slots)

pub returns : goal.returns
returns c = work_cleared _ _ _ _ _ _ _ _ c.first_work-answer.ensures c.clear_area.ensures
