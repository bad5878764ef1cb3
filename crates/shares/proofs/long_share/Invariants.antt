-- `shares::long_share` meets its contract. The loop's invariant: 2^i × through is divided by count.
-- Assumes nothing.
use Prim.Native.Nat.{◌*◌, ◌^◌}
use Rattle.shares.specs.Division.{Divided}
use Rattle.shares.proofs.long_share.Given as goal

abbrev pub invariant-loop : goal.invariant-loop
invariant-loop l = Divided l.count l.d.whole l.d.rest (2 ^ l.counter * l.through)
