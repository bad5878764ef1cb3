-- `plan::word_at` meets its contract: the sum is the number that the two bytes say.
-- Assumes nothing.
use native.Mathlib.Omega.{arith}
use Rattle.temporal.specs.Bytes.{word_at}
use Rattle.plan.proofs.word_at.Goals as goal

pub returns : goal.returns
unfolding word_at
returns c = omega (arith, c.from_be_bytes.ensures)
