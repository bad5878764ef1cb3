-- `tallies::column` meets its contract: the entry, or its lane.
-- Assumes nothing.
use native.Mathlib.Omega.{arith}
use mathlib.Core.Path.{refl}
use Rattle.pass.proofs.WidthLaws.{column_asked}
use Rattle.tallies.proofs.LaneLaws.{column_whole, column_lane}
use Rattle.tallies.proofs.column.Goals as goal

pub bounds-work-row : goal.bounds-work-row
bounds-work-row c = c.requires.whole (omega arith)

pub returns-then-split-eq0 : goal.returns-then-split-eq0
returns-then-split-eq0 c =
    let a = c.args in
    column_whole a.split a.row a.j a.work.now (omega arith)

pub lane_at-requires : goal.lane_at-requires
lane_at-requires c =
    column_asked _ _ _ _ c.requires.few c.width_of-w.ensures c.lane_of-l.ensures

pub returns : goal.returns
returns c =
    let a = c.args in
    column_lane a.split a.row a.j a.work.now (omega arith) _ _ _ _ _ c.entry_of.ensures c.width_of-w.ensures
    c.lane_of-l.ensures refl c.lane_at.ensures
