-- `tallies::full_entry` meets its contract.
-- Assumes nothing.
use native.Mathlib.Omega.{arith}
use Prim.Native.Nat.{◌+◌}
use lib.ListN.{get_or}
use Rattle.tallies.proofs.LaneLaws.{full_whole, full_fits}
use Rattle.tallies.proofs.full_entry.Goals as goal

pub returns-then-split-eq0 : goal.returns-then-split-eq0
returns-then-split-eq0 c = full_whole _ _ (omega arith)

pub overflow_mul-result : goal.overflow_mul-result
overflow_mul-result c =
    let a = c.args in
    let fits = full_fits a.split (get_or a.work.now (a.n + a.z) 0) c.requires.few c.requires.fits (omega arith) in
    rw c.ones_of.ensures (omega (arith, fits))

pub returns : goal.returns
returns c = rw c.ones_of.ensures
