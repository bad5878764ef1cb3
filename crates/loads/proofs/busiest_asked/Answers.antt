-- `loads::busiest_asked` meets its contract: the test of the length decides 8.
-- Assumes nothing.
use native.Mathlib.Omega.{arith}
use mathlib.Core.Path.{sym, ◌∙◌}
use Rattle.walks.proofs.Accepted.{accepted}
use Rattle.plan.proofs.LimitLaws.{limited_places}
use Rattle.loads.proofs.LoadLaws.{busiest_short, busiest_works, busiest_ready}
use Rattle.loads.proofs.busiest_asked.Goals as goal

pub overflow_add-t : goal.overflow_add-t
overflow_add-t c = omega (arith, (accepted _ _ _ c.requires.0).slots)

pub overflow_mul-n : goal.overflow_mul-n
overflow_mul-n c = let a = accepted _ _ _ c.requires.0 in omega (arith, limited_places _ _ a.stations a.slots)

pub overflow_mul-n-2 : goal.overflow_mul-n-2
overflow_mul-n-2 c = let a = accepted _ _ _ c.requires.0 in omega (arith, limited_places _ _ a.stations a.slots)

pub returns-then-work-n : goal.returns-then-work-n
returns-then-work-n c = busiest_short _ _ _ _ _ c.requires.0 c.requires.1 (omega arith)

pub busiest_work-requires : goal.busiest_work-requires
busiest_work-requires c = busiest_ready _ _ _ _ _ c.requires.0 c.requires.1 (omega arith)

pub returns : goal.returns
returns c = c.busiest_work.ensures ∙ sym (busiest_works _ _ _ _ _ c.requires.0 c.requires.1 (omega arith))
