-- `joftaki_c::joftaki_check` meets its contract: the number of check's answer fits 32 bits.
-- Assumes nothing.
use native.Mathlib.Omega.{arith}
use Rattle.joftaki_c.proofs.CodeLaws.{check_small}
use Rattle.joftaki_c.proofs.joftaki_check.Goals as goal

pub overflow_cast-result : goal.overflow_cast-result
overflow_cast-result c = omega (arith, check_small c.check.result _ c.check_number.ensures)
