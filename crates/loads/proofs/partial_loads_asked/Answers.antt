-- `loads::partial_loads_asked` meets its contract: the tests of k and of the lengths decide 13 and 8.
-- Assumes nothing.
use native.Mathlib.Omega.{arith}
use mathlib.Core.Path.{sym, ◌∙◌}
use Rattle.walks.proofs.Accepted.{accepted}
use Rattle.plan.proofs.LimitLaws.{limited_places}
use Rattle.loads.proofs.LoadLaws.{loads_sources, loads_short_pairs, loads_short_loads, loads_short_area}
use Rattle.loads.proofs.LoadLaws.{loads_works, loads_ready}
use Rattle.loads.proofs.partial_loads_asked.Goals as goal
use Rattle.loads.proofs.partial_loads_asked.Goals.{
  then-pairs-n-via-then-pairs-n,
  then-pairs-n-via-else-pairs-n+then-sums-n,
  then-pairs-n-via-else-pairs-n+else-sums-n+then-work-n,
}

pub returns-then-n-k : goal.returns-then-n-k
returns-then-n-k c = loads_sources _ _ _ _ _ _ _ _ c.requires.0 c.requires.1 (omega arith)

pub returns-then-pairs-n : goal.returns-then-pairs-n
returns-then-pairs-n c =
    elim c.then-pairs-n.branch [
      | then-pairs-n-via-then-pairs-n w ↦ loads_short_pairs _ _ _ _ _ _ _ _ c.requires.0 c.requires.1 (omega arith) (omega arith)
      | then-pairs-n-via-else-pairs-n+then-sums-n w ↦ loads_short_loads _ _ _ _ _ _ _ _ c.requires.0 c.requires.1 (omega arith) (omega arith) (omega arith)
      | then-pairs-n-via-else-pairs-n+else-sums-n+then-work-n w ↦ loads_short_area _ _ _ _ _ _ _ _ c.requires.0 c.requires.1 (omega arith) (omega arith) (omega arith) (omega arith)
    ]

pub overflow_add-t : goal.overflow_add-t
overflow_add-t c = omega (arith, (accepted _ _ _ c.requires.0).slots)

pub overflow_mul-n : goal.overflow_mul-n
overflow_mul-n c = let a = accepted _ _ _ c.requires.0 in omega (arith, limited_places _ _ a.stations a.slots)

pub overflow_mul-n-else-sums-n : goal.overflow_mul-n-else-sums-n
overflow_mul-n-else-sums-n c = let a = accepted _ _ _ c.requires.0 in omega (arith, limited_places _ _ a.stations a.slots)

pub partial_loads_work-requires : goal.partial_loads_work-requires
partial_loads_work-requires c = loads_ready _ _ _ _ _ _ _ _ c.requires.0 c.requires.1 (omega arith) (omega arith) (omega arith) (omega arith)

pub returns : goal.returns
returns c =
    c.partial_loads_work.ensures ∙
    sym (loads_works _ _ _ _ _ _ _ _ c.requires.0 c.requires.1 (omega arith) (omega arith) (omega arith) (omega arith))
