-- `reach_entries::any_overflows` meets its contract: the chain over the first k places is true exactly where one of them overflows.
-- Assumes nothing.
use Rattle.std.proofs.Common.{rules}
use Rattle.std.proofs.iter.runs.Sources.{ranges}
use Rattle.entries.proofs.SearchLaws.{any_by}
use Rattle.reach_entries.proofs.any_overflows.Goals as goal

pub returns : goal.returns
returns c = any_by _ _ _ (search (rules, ranges))
