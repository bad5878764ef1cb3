-- `judging::first_legs` meets its contract. The loop's invariant: each leg from the given one up to k is the first that leads home.
-- Assumes nothing.
use mathlib.Core.Path.{refl}
use native.Mathlib.Omega.{arith}
use Rattle.lists.proofs.ListLaws.{not_both}
use Rattle.judging.proofs.LegLaws.{firsts_all, first_missing}
use Rattle.judging.proofs.first_legs.Goals as goal

pub returns-then-not-first_leg : goal.returns-then-not-first_leg
returns-then-not-first_leg c =
    let inv = c.loop-k.invariant in
    let pre = c.requires in
    record {
      yes = λ h. absurd (not_both h refl);
      no = λ h. first_missing _ _ _ _ pre.room _ (omega arith) (omega arith) (c.first_leg.ensures.no c.if-not-first_leg.true);
    }

pub returns : goal.returns
returns c =
    record {
      yes = λ h. firsts_all _ _ _ _ c.requires.room _ (omega arith) c.loop-k.invariant;
      no = λ h. absurd (not_both refl h);
    }
