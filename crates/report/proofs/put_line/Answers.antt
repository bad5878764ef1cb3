-- `report::put_line` meets its contract: three numbers, one behind the other.
-- Assumes nothing.
use Rattle.report.specs.Report.{line}
use Rattle.report.proofs.put_line.Goals as goal

pub put_fields-requires : goal.put_fields-requires
unfolding line
put_fields-requires c = c.requires

pub returns : goal.returns
unfolding line
returns c = c.put_fields.ensures
