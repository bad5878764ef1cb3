-- `shares::long_share` meets its contract: each doubling keeps the division, and the last leaves its whole part.
-- Assumes nothing.
use mathlib.Core.Path.{◌≡◌}
use native.Mathlib.Omega.{arith}
use Rattle.shares.proofs.DivisionLaws.{divided_whole, doubled_none, doubled_more, doubled_below}
use Rattle.shares.proofs.long_share.Goals as goal

pub loop-init : goal.loop-init
loop-init c = doubled_none c.requires

pub doubled-d-requires : goal.doubled-d-requires
doubled-d-requires c = (doubled_below 32 (omega arith) c.requires c.loop.invariant, c.loop.invariant.small)

pub loop-preserved : goal.loop-preserved
loop-preserved c = doubled_more _ _ c.loop.invariant c.doubled-d.ensures

pub returns : goal.returns
returns c = let last : c.loop.counter ≡ 32 = omega arith in divided_whole (rw last at c.loop.invariant)
