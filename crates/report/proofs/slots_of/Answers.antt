-- `report::slots_of` meets its contract.
-- Assumes nothing.
use mathlib.Core.Path.{ap}
use borrow.Author.Tests.{eq-eqb, ne_eqb}
use Rattle.temporal.specs.Bytes.{records}
use Rattle.report.specs.Sizes.{input_slots}
use Rattle.report.proofs.slots_of.Goals as goal

pub returns-then-m-eq0 : goal.returns-then-m-eq0
unfolding input_slots records
returns-then-m-eq0 c = rw (eq-eqb _ 0 c.if-m-eq0.true)

pub returns : goal.returns
unfolding input_slots records
returns c = rw (ne_eqb _ 0 c.if-m-eq0.false) (ap (λ x. x.slot) c.contact_at-c.ensures)
