-- `report::put_heading` meets its contract: the first word, then three numbers.
-- Assumes nothing.
use Rattle.report.specs.Report.{heading}
use Rattle.report.proofs.put_heading.Goals as goal

pub put_labelled-requires : goal.put_labelled-requires
unfolding heading
put_labelled-requires c = c.requires

pub returns : goal.returns
unfolding heading
returns c = c.put_labelled.ensures
