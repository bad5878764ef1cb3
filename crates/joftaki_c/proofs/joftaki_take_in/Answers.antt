-- `joftaki_c::joftaki_take_in` meets its contract: the answer gives the number, and the table is as `band::take_in` leaves it.
-- Assumes nothing.
use Rattle.joftaki_c.proofs.joftaki_take_in.Goals as goal

pub returns : goal.returns
returns c = rw c.answer_code.ensures c.take_in.ensures
