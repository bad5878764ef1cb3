-- `joftaki_c::joftaki_reach` meets its contract: reach's answer gives the number, and the tables are as reach leaves them.
-- Assumes nothing.
use Rattle.joftaki_c.proofs.joftaki_reach.Goals as goal

pub returns : goal.returns
returns c = rw c.answer_code.ensures c.reach.ensures
