-- `reach_window::settle_all` meets its contract. The loop's invariant: settling the slots from u on gives what settling all gives.
-- Assumes nothing.
use native.Mathlib.Omega.{arith}
use Rattle.reach_window.proofs.WindowLaws.{settling_all_none, settling_all_more, settling_all_done, settled_emptied}
use Rattle.reach_window.proofs.settle_all.Goals as goal

pub loop-u-init : goal.loop-u-init
loop-u-init c = settling_all_none _ _ _ _

pub settle-requires : goal.settle-requires
settle-requires c =
    let at = c.loop-u.invariant in
    (record { hops = omega arith; counts = omega arith; station_hops_law = omega arith; station_counts_law = omega arith }, omega arith)

pub loop-u-preserved : goal.loop-u-preserved
loop-u-preserved c =
    rw c.settle.ensures (settling_all_more _ _ _ _ _ _ (omega arith) c.loop-u.invariant)

pub returns : goal.returns
returns c =
    settled_emptied _ _ _ _ _ _ _ _ (settling_all_done _ _ _ _ _ _ (omega arith) c.loop-u.invariant)
    c.fill.ensures c.fill-2.ensures
