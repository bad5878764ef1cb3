-- `band::changed` meets its contract: an entry that does not refuse has room for the records, or has them.
-- Assumes nothing.
use native.Mathlib.Omega.{arith}
use Rattle.band.proofs.TakingLaws.{in_fits, out_fits}
use Rattle.band.proofs.changed.Goals as goal

pub overflow_cast-result : goal.overflow_cast-result
overflow_cast-result c = record { fits = omega (arith, in_fits _ _ _ c.requires _ c.in-In.is) }

pub overflow_add-result : goal.overflow_add-result
overflow_add-result c = record { fits = omega (arith, in_fits _ _ _ c.requires _ c.in-In.is) }

pub overflow_cast-result-in-Out : goal.overflow_cast-result-in-Out
overflow_cast-result-in-Out c = record { fits = omega (arith, out_fits _ _ _ c.requires c.in-Out.is) }

pub overflow_sub-result : goal.overflow_sub-result
overflow_sub-result c = out_fits _ _ _ c.requires c.in-Out.is

pub returns-in-In : goal.returns-in-In
returns-in-In c = rw c.in-In.is

pub returns-in-Out : goal.returns-in-Out
returns-in-Out c = rw c.in-Out.is
