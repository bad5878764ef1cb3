-- `drawn::drawn_loads_asked` meets its contract: the tests of the lengths decide 8.
-- Assumes nothing.
use native.Mathlib.Omega.{arith}
use mathlib.Core.Path.{sym, ◌∙◌}
use Rattle.walks.proofs.Accepted.{accepted}
use Rattle.plan.proofs.LimitLaws.{limited_places}
use Rattle.drawn.proofs.DrawnLaws.{drawn_short_pairs, drawn_short_loads, drawn_short_records, drawn_short_area}
use Rattle.drawn.proofs.DrawnLaws.{drawn_works, drawn_ready}
use Rattle.drawn.proofs.drawn_loads_asked.Goals as goal
use Rattle.drawn.proofs.drawn_loads_asked.Goals.{
  then-pairs-n-via-then-pairs-n,
  then-pairs-n-via-else-pairs-n+then-sums-n,
  then-pairs-n-via-else-pairs-n+else-sums-n+then-records-n,
  then-pairs-n-via-else-pairs-n+else-sums-n+else-records-n+then-work-n,
}

pub returns-then-pairs-n : goal.returns-then-pairs-n
returns-then-pairs-n c =
    elim c.then-pairs-n.branch [
      | then-pairs-n-via-then-pairs-n w ↦ drawn_short_pairs _ _ _ _ _ _ _ _ c.requires.0 c.requires.1 (omega arith)
      | then-pairs-n-via-else-pairs-n+then-sums-n w ↦ drawn_short_loads _ _ _ _ _ _ _ _ c.requires.0 c.requires.1 (omega arith) (omega arith)
      | then-pairs-n-via-else-pairs-n+else-sums-n+then-records-n w ↦ drawn_short_records _ _ _ _ _ _ _ _ c.requires.0 c.requires.1 (omega arith) (omega arith) (omega arith)
      | then-pairs-n-via-else-pairs-n+else-sums-n+else-records-n+then-work-n w ↦
          drawn_short_area _ _ _ _ _ _ _ _ c.requires.0 c.requires.1 (omega arith) (omega arith) (omega arith) (omega arith)
    ]

pub overflow_mul-n : goal.overflow_mul-n
overflow_mul-n c = omega (arith, (accepted _ _ _ c.requires.0).stations)

pub overflow_add-t : goal.overflow_add-t
overflow_add-t c = omega (arith, (accepted _ _ _ c.requires.0).slots)

pub overflow_mul-n-else-records-n : goal.overflow_mul-n-else-records-n
overflow_mul-n-else-records-n c = let a = accepted _ _ _ c.requires.0 in omega (arith, limited_places _ _ a.stations a.slots)

pub overflow_mul-n-else-records-n-2 : goal.overflow_mul-n-else-records-n-2
overflow_mul-n-else-records-n-2 c = let a = accepted _ _ _ c.requires.0 in omega (arith, limited_places _ _ a.stations a.slots)

pub drawn_loads_work-requires : goal.drawn_loads_work-requires
drawn_loads_work-requires c = drawn_ready _ _ _ _ _ _ _ _ c.requires.0 c.requires.1 (omega arith) (omega arith) (omega arith) (omega arith)

pub returns : goal.returns
returns c =
    c.drawn_loads_work.ensures ∙
    sym (drawn_works _ _ _ _ _ _ _ _ c.requires.0 c.requires.1 (omega arith) (omega arith) (omega arith) (omega arith))
