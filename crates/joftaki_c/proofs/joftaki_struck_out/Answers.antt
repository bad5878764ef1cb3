-- `joftaki_c::joftaki_struck_out` meets its contract: the operation's answer gives the number and the slot of the pairs.
-- Assumes nothing.
use Rattle.joftaki_c.proofs.joftaki_struck_out.Goals as goal

pub returns-in-Ok : goal.returns-in-Ok
returns-in-Ok c = rw c.in-Ok.is at c.struck_out.ensures

pub returns-in-Err : goal.returns-in-Err
returns-in-Err c =
    rw c.fault_code.ensures (rw c.in-Err.is at c.struck_out.ensures)
