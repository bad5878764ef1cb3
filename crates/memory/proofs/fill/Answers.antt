-- `memory::fill` meets its contract.
-- Assumes nothing.
use native.Mathlib.Omega.{arith}
use mathlib.Core.Path.{◌∙◌, ap}
use mathlib.Core.List.{◌++◌}
use lib.ListN.{set, take, drop}
use Rattle.std.proofs.lemmas.List.{length-take-le}
use Rattle.memory.proofs.FillLaws.{fill_next, fill_all}
use Rattle.memory.proofs.fill.Goals as goal

pub loop-entry-preserved : goal.loop-entry-preserved
loop-entry-preserved g c =
    ap (λ l. set l c.loop-entry.entry-index c.args.x) c.loop-entry.invariant ∙
    fill_next c.loop-entry.entry-index c.args.x (take c.args.k c.args.table.now) c.loop-entry-test.true

pub returns : goal.returns
returns g c =
    ap (λ l. l ++ drop c.args.k c.args.table.now) c.loop-entry.invariant ∙
    fill_all _ _ _ _ c.requires (omega (arith, length-take-le c.args.k c.args.table.now c.requires))
