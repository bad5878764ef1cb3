-- `joftaki_c::joftaki_take_out` meets its contract: the answer gives the number, and the table is as `band::take_out` leaves it.
-- Assumes nothing.
use Rattle.joftaki_c.proofs.joftaki_take_out.Goals as goal

pub returns : goal.returns
returns c = rw c.answer_code.ensures c.take_out.ensures
