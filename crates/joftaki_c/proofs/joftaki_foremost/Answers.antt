-- `joftaki_c::joftaki_foremost` meets its contract: foremost's answer gives the number and the three slots.
-- Assumes nothing.
use Rattle.joftaki_c.proofs.joftaki_foremost.Goals as goal

pub returns-in-Ok : goal.returns-in-Ok
returns-in-Ok c =
    rw c.in-Ok.is at c.foremost.ensures

pub returns-in-Err : goal.returns-in-Err
returns-in-Err c =
    rw c.fault_code.ensures (rw c.in-Err.is at c.foremost.ensures)
