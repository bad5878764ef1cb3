-- `joftaki_c::joftaki_next_way` meets its contract: the answer's reply gives the number and the hops slot.
-- Assumes nothing.
use Rattle.joftaki_c.proofs.joftaki_next_way.Goals as goal

pub returns : goal.returns
returns c =
    rw (← c.next_way-answer.ensures, c.way_code.ensures, c.way_hops.ensures)
