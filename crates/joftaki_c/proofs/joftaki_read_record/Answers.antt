-- `joftaki_c::joftaki_read_record` meets its contract: the answer gives the number and the slots.
-- Assumes nothing.
use Rattle.joftaki_c.proofs.ReadingLaws.{given_station, given_foreign}
use Rattle.joftaki_c.proofs.joftaki_read_record.Goals as goal

pub returns-in-Some : goal.returns-in-Some
returns-in-Some c = given_station _ _ c.read_record.ensures _ _ c.in-Some.is

pub returns-in-None : goal.returns-in-None
returns-in-None c = given_foreign _ _ c.read_record.ensures _ c.in-None.is
