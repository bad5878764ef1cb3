-- `joftaki_c::joftaki_row_number` meets its contract: row's number fits 32 bits.
-- Assumes nothing.
use native.Mathlib.Omega.{arith}
use Rattle.joftaki_c.proofs.CodeLaws.{row_small}
use Rattle.joftaki_c.proofs.joftaki_row_number.Goals as goal

pub overflow_cast-result : goal.overflow_cast-result
overflow_cast-result c = omega (arith, row_small _ _ _ _ _ c.row_number.ensures)
