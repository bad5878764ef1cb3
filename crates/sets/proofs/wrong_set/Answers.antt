-- `sets::wrong_set` meets its contract: the chain over the first n bytes is true exactly where one of them is above 1.
-- Assumes nothing.
use Rattle.std.specs.Prelude.{◌<◌, ◌↔◌, IsTrue, SomeIndex, slice_index, take}
use Rattle.std.proofs.Common.{rules}
use Rattle.std.proofs.iter.runs.Made.{chains}
use Rattle.sets.proofs.SetCallLaws.{wrong_by}
use Rattle.sets.proofs.wrong_set.Goals as goal

pub returns : goal.returns
returns c =
    let first = take c.args.n c.args.set.now in
    let some : IsTrue c.any.result ↔ SomeIndex first (λ k. 1 < slice_index first k) = search (rules, chains) in
    wrong_by _ _ c.requires _ some
