-- `memory::clear` meets its contract.
-- Assumes nothing.
use Prim.Native.Nat.{ℕ}
use mathlib.Core.Path.{ap, ◌∙◌}
use mathlib.Core.List.{◌++◌}
use lib.ListN.{drop, replicate, length-replicate}
use Rattle.std.proofs.lemmas.List.{length-take-le}
use Rattle.temporal.specs.Outcome.{over}
use Rattle.memory.proofs.clear.Goals as goal

pub returns : goal.returns
unfolding over
returns c =
    rw (length-replicate {A = ℕ} c.args.k 0)
    (ap (λ l. l ++ drop c.args.k c.args.table.now)
    (c.fill.ensures.after (λ y e. e) ∙ ap (λ n. replicate n 0) (length-take-le _ _ c.requires)))
