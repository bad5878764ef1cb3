-- `joftaki_c::joftaki_drawn_loads` meets its contract: the answer gives the number, and what is lent is as `drawn::drawn_loads` leaves it.
-- Assumes nothing.
use Rattle.joftaki_c.proofs.joftaki_drawn_loads.Goals as goal

pub returns : goal.returns
returns c = rw c.answer_code.ensures c.drawn_loads.ensures
