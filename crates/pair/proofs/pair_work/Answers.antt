-- `pair::pair_work` meets its contract: too many clears both buffers; else the counts stand in the table and in the work
-- area, which is then cleared.
-- Assumes nothing.
use mathlib.Core.Path.{refl}
use Rattle.pair.proofs.PairLaws.{paired_refused, paired_counted}
use mathlib.Core.Logic.{inl, inr}
use Rattle.pair.proofs.pair_work.Goals as goal

pub throughs-requires : goal.throughs-requires
throughs-requires c = record { ready = c.requires; asks = record { which = inl refl; waits = inr refl } }

pub returns-in_default : goal.returns-in_default
returns-in_default c =
    paired_refused _ _ _ _ _ _ _ _ c.requires _ _ c.in_default.ensures _ _ c.clear.ensures c.clear-in_default.ensures

pub returns : goal.returns
returns c =
    paired_counted _ _ _ _ _ _ _ _ c.requires _ _ _ c.in-Some.ensures _ _ _ refl refl c.clear-2.ensures
