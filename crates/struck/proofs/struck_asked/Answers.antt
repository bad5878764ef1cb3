-- `struck::struck_asked` meets its contract.
-- Assumes nothing.
use native.Mathlib.Omega.{arith}
use mathlib.Core.Path.{sym, ◌∙◌}
use Rattle.temporal.specs.Bytes.{records}
use Rattle.walks.proofs.Accepted.{accepted}
use Rattle.plan.proofs.LimitLaws.{limited_places}
use Rattle.struck.proofs.StruckLaws.{struck_short_changes, struck_short_area, struck_position, struck_ready, struck_works}
use Rattle.struck.proofs.struck_asked.Goals as goal
use Rattle.struck.proofs.struck_asked.Goals.{then-changes-n-via-then-changes-n, then-changes-n-via-else-changes-n+then-work-n}

pub returns-then-changes-n : goal.returns-then-changes-n
returns-then-changes-n c =
    elim c.then-changes-n.branch [
      | then-changes-n-via-then-changes-n w ↦ struck_short_changes _ _ _ _ _ _ _ c.requires.0 c.requires.1 (omega arith)
      | then-changes-n-via-else-changes-n+then-work-n w ↦ struck_short_area _ _ _ _ _ _ _ c.requires.0 c.requires.1 (omega arith) (omega arith)
    ]

pub overflow_add-t : goal.overflow_add-t
overflow_add-t c = omega (arith, (accepted _ _ _ c.requires.0).slots)

pub overflow_mul-n : goal.overflow_mul-n
overflow_mul-n c = let a = accepted _ _ _ c.requires.0 in omega (arith, limited_places _ _ a.stations a.slots)

pub overflow_mul-n-else-changes-n : goal.overflow_mul-n-else-changes-n
overflow_mul-n-else-changes-n c = let a = accepted _ _ _ c.requires.0 in omega (arith, limited_places _ _ a.stations a.slots)

pub returns-then-plan-position : goal.returns-then-plan-position
unfolding records
returns-then-plan-position c = struck_position _ _ _ _ _ _ _ c.requires.0 c.requires.1 (omega arith) (omega arith) (omega arith)

pub struck_work-requires : goal.struck_work-requires
struck_work-requires c = struck_ready _ _ _ _ 0 _ _ c.requires.0 c.requires.1 (omega arith) (omega arith)

pub returns : goal.returns
unfolding records
returns c = c.struck_work.ensures ∙ sym (struck_works _ _ _ _ _ _ _ c.requires.0 c.requires.1 (omega arith) (omega arith) (omega arith))
