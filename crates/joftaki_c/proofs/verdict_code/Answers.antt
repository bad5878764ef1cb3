-- `joftaki_c::verdict_code` meets its contract, case by case.
-- Assumes nothing.
use mathlib.Core.Path.{sym, ap}
use mathlib.Core.Option.{some}
use Rattle.judging.specs.Judge.{verdict_of}
use Rattle.joftaki_c.specs.Slots.{verdict_code}
use Rattle.joftaki_c.proofs.verdict_code.Goals as goal

pub returns-in-Complete : goal.returns-in-Complete
unfolding verdict_code verdict_of
returns-in-Complete c = sym (ap (λ j. verdict_code (some (verdict_of j))) c.in-Complete.is)

pub returns-in-Beginning : goal.returns-in-Beginning
unfolding verdict_code verdict_of
returns-in-Beginning c = sym (ap (λ j. verdict_code (some (verdict_of j))) c.in-Beginning.is)

pub returns-in-Wrong : goal.returns-in-Wrong
unfolding verdict_code verdict_of
returns-in-Wrong c = sym (ap (λ j. verdict_code (some (verdict_of j))) c.in-Wrong.is)
