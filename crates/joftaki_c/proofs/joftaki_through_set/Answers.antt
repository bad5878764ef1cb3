-- `joftaki_c::joftaki_through_set` meets its contract: the operation's answer gives the number and the count's slot.
-- Assumes nothing.
use Rattle.joftaki_c.proofs.joftaki_through_set.Goals as goal

pub returns-in-Ok : goal.returns-in-Ok
returns-in-Ok c = rw c.in-Ok.is at c.through_set.ensures

pub returns-in-Err : goal.returns-in-Err
returns-in-Err c =
    rw c.fault_code.ensures (rw c.in-Err.is at c.through_set.ensures)
