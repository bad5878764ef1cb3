-- `plan::in_slot` meets its contract: the comparison of positions, then that of slots.
-- Assumes nothing.
use mathlib.Core.Path.{ap}
use borrow.Author.Tests.{lt-ltb, le-ltb}
use lib.Dec.{eqb}
use Rattle.temporal.specs.Bytes.{records}
use Rattle.plan.specs.Record.{in_slot}
use Rattle.plan.proofs.in_slot.Goals as goal

pub returns-then-j-plan : goal.returns-then-j-plan
unfolding in_slot records
returns-then-j-plan c = rw (lt-ltb _ _ c.if-j-plan.true) (ap (λ x. eqb x.slot c.args.u) c.contact_at.ensures)

pub returns-else-j-plan : goal.returns-else-j-plan
unfolding in_slot records
returns-else-j-plan c = rw (le-ltb _ _ c.if-j-plan.false)
