-- `joftaki_c::joftaki_partial_loads` meets its contract: the answer gives the number, and the tables are as `loads::partial_loads` leaves
-- them.
-- Assumes nothing.
use Rattle.joftaki_c.proofs.joftaki_partial_loads.Goals as goal

pub returns : goal.returns
returns c = rw c.answer_code.ensures c.partial_loads.ensures
