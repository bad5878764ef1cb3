-- `report::put_table` meets its contract: the first line, then the lines of the stations.
-- Assumes nothing.
use Rattle.text.proofs.PutLaws.{room_first, room_rest, put_both}
use Rattle.report.specs.Report.{heading}
use Rattle.report.specs.Work.{lines_of, table_of}
use Rattle.report.proofs.put_table.Goals as goal

pub put_heading-at-requires : goal.put_heading-at-requires
unfolding table_of
put_heading-at-requires c =
    let a = c.args in
    room_first 0 (heading a.n a.t a.m) (lines_of a.pairs.now a.sums.now a.n) a.out.now c.requires.text_room

pub put_lines-requires : goal.put_lines-requires
unfolding table_of
put_lines-requires c =
    let a = c.args in
    let pre = c.requires in
    record {
      pairs_room = pre.pairs_room;
      loads_room = pre.loads_room;
      text_room =
          room_rest 0 (heading a.n a.t a.m) (lines_of a.pairs.now a.sums.now a.n) a.out.now
          pre.text_room _ _ c.put_heading-at.ensures;
    }

pub returns : goal.returns
unfolding table_of
returns c =
    let a = c.args in
    put_both 0 (heading a.n a.t a.m) (lines_of a.pairs.now a.sums.now a.n) a.out.now
    c.requires.text_room _ _ c.put_heading-at.ensures _ _ c.put_lines.ensures
