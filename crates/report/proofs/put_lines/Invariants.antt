-- `report::put_lines` meets its contract. The loop's invariant: what is left has room, and written behind what stands it makes all
-- lines.
-- Assumes nothing.
use lib.ListN.{get_or}
use Rattle.text.specs.Pieces.{pieces}
use Rattle.text.proofs.GoingLaws.{Going}
use Rattle.report.specs.Report.{line}
use Rattle.report.specs.Work.{lines_of}
use Rattle.report.proofs.put_lines.Given as goal

abbrev pub invariant-loop-v : goal.invariant-loop-v
invariant-loop-v l =
    Going l.at (lines_of l.pairs l.sums l.n) l.initial.out l.end (pieces (λ u. line u (get_or l.pairs u 0) (get_or l.sums u 0)) l.v l.n) l.out
