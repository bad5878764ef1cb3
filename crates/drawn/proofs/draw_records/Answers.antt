-- `drawn::draw_records` meets its contract. The loop's invariant: the records before station v are written.
-- Assumes nothing.
use native.Mathlib.Omega.{arith}
use Rattle.drawn.proofs.RecordsLaws.{written_none, written_next, written_all}
use Rattle.drawn.proofs.draw_records.Goals as goal

pub loop-v-init : goal.loop-v-init
loop-v-init c = written_none _ _ _ _

pub draw_entry-requires : goal.draw_entry-requires
draw_entry-requires c = (record { pairs_room = c.requires.pairs_room; loads_room = c.requires.loads_room; records_room = omega (arith, c.requires.records_room, c.loop-v.invariant.same_length); pairs_low = c.requires.pairs_low; loads_low = c.requires.loads_low }, omega arith)

pub loop-v-preserved : goal.loop-v-preserved
loop-v-preserved c = rw c.draw_entry.ensures (written_next _ _ _ _ _ _ (omega arith) c.loop-v.invariant)

pub shape_of-records : goal.shape_of-records
shape_of-records c = c.loop-v.invariant.same_length

pub returns : goal.returns
returns c = written_all _ _ _ _ _ _ c.requires.records_room (omega arith) c.loop-v.invariant
