-- `struck::room_block` meets its contract.
-- Assumes nothing.
use native.Mathlib.Omega.{arith}
use Rattle.struck.proofs.ParkLaws.{room_less}
use Rattle.struck.proofs.room_block.Goals as goal

pub returns-then-block-n : goal.returns-then-block-n
returns-then-block-n c = room_less _ _ _ _ _ _ c.requires.1.1.1 (omega arith)
