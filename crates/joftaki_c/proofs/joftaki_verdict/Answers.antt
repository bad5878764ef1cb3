-- `joftaki_c::joftaki_verdict` meets its contract: the operation's answer gives the number and the verdict's slot.
-- Assumes nothing.
use mathlib.Core.Path.{ap}
use Rattle.joftaki_c.specs.Slots.{verdict_code, verdict_coded}
use Rattle.joftaki_c.proofs.joftaki_verdict.Goals as goal

pub returns-in-Ok : goal.returns-in-Ok
unfolding verdict_coded
returns-in-Ok c = rw c.verdict_code.ensures (ap verdict_coded (rw c.in-Ok.is at c.verdict.ensures))

pub returns-in-Err : goal.returns-in-Err
unfolding verdict_coded verdict_code
returns-in-Err c = rw c.fault_code.ensures (ap verdict_coded (rw c.in-Err.is at c.verdict.ensures))
