-- `joftaki_c::joftaki_pair` meets its contract: pair's answer gives the number and the two slots.
-- Assumes nothing.
use Rattle.joftaki_c.proofs.joftaki_pair.Goals as goal

pub returns-in-Ok : goal.returns-in-Ok
returns-in-Ok c =
    rw c.in-Ok.is at c.pair.ensures

pub returns-in-Err : goal.returns-in-Err
returns-in-Err c =
    rw c.fault_code.ensures (rw c.in-Err.is at c.pair.ensures)
