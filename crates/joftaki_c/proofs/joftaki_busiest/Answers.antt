-- `joftaki_c::joftaki_busiest` meets its contract: busiest's answer gives the number and the station's slot.
-- Assumes nothing.
use Rattle.joftaki_c.proofs.joftaki_busiest.Goals as goal

pub returns-in-Ok : goal.returns-in-Ok
returns-in-Ok c = rw c.in-Ok.is at c.busiest.ensures

pub returns-in-Err : goal.returns-in-Err
returns-in-Err c =
    rw c.fault_code.ensures (rw c.in-Err.is at c.busiest.ensures)
