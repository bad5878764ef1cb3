-- `drawn::drawn_loads_work` meets its contract: where loads refuses, the records are cleared; else they are written from the tables.
-- Assumes nothing.
use Rattle.drawn.proofs.DrawnLaws.{drawn_drawable, drawn_loaded_law, drawn_refused}
use Rattle.drawn.proofs.drawn_loads_work.Goals as goal

pub returns-in-Err : goal.returns-in-Err
returns-in-Err c = drawn_refused _ _ _ _ _ _ _ _ c.requires _ _ _ _ c.partial_loads_work.ensures _ c.in-Err.is _ c.fill.ensures

pub draw_records-requires : goal.draw_records-requires
draw_records-requires c = drawn_drawable _ _ _ _ _ _ _ _ c.requires _ _ _ _ c.partial_loads_work.ensures c.in_default.is

pub returns : goal.returns
returns c = drawn_loaded_law _ _ _ _ _ _ _ _ c.requires _ _ _ _ c.partial_loads_work.ensures c.in_default.is _ c.draw_records.ensures
