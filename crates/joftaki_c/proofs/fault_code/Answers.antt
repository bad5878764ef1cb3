-- `joftaki_c::fault_code` meets its contract: a fault's number fits 32 bits.
-- Assumes nothing.
use native.Mathlib.Omega.{arith}
use Rattle.plan.proofs.Answers.{fault-number-within}
use Rattle.joftaki_c.proofs.fault_code.Goals as goal

pub overflow_cast-result : goal.overflow_cast-result
overflow_cast-result c = omega (arith, fault-number-within c.args.fault, c.fault_number.ensures)
