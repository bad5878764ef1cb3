-- `report::top_of` meets its contract: the largest of what the chain gives.
-- Assumes nothing.
use Prim.Native.Nat.{◌+◌, ◌/◌}
use native.Mathlib.Omega.{arith}
use mathlib.Core.Path.{refl, ap, ◌∙◌}
use lib.ListN.{length}
use borrow.Author.Rules.{rules}
use Rattle.std.specs.Option.{unwrap_or}
use Rattle.std.specs.List.{range_with_len}
use Rattle.std.proofs.lemmas.Iterator.{YieldsList-from_range, YieldsList-from_map}
use Rattle.std.proofs.lemmas.Iterator.Consumers.{YieldsList-at, reduce_from_yields_List}
use Rattle.std.proofs.lemmas.List.Folds.{max_of_map}
use Rattle.temporal.specs.Bytes.{records}
use Rattle.report.specs.Sizes.{top_station, input_stations}
use Rattle.report.proofs.SizeLaws.{fold_below}
use Rattle.report.proofs.top_of.Goals as goal

pub returns : goal.returns
unfolding input_stations records
returns c =
    let f = top_station c.args.input.now in
    let m = length c.args.input.now / 6 in
    ap (λ k. k + 1)
    (c.unwrap_or.ensures ∙
    ap (λ o. unwrap_or o 0)
    (reduce_from_yields_List _ c.map.result _ c.max.ensures.ran
    (YieldsList-from_map _ f (YieldsList-at c.map.ensures.source (YieldsList-from_range 0 m m refl (omega arith)))
    c.map.ensures.closure (λ x r q k. search rules))) ∙
    max_of_map f (range_with_len 0 m) ∙ fold_below f m)
