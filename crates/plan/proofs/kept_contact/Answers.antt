-- `plan::kept_contact` meets its contract.
-- Assumes nothing.
use native.Mathlib.Omega.{arith}
use mathlib.Core.Path.{sym, ap, ◌∙◌}
use Rattle.temporal.specs.Bytes.{contact_at}
use Rattle.walks.proofs.LackingLaws.{lacking_small, lacking_few, lacking_contact}
use Rattle.plan.proofs.kept_contact.Goals as goal

pub position_with-requires : goal.position_with-requires
position_with-requires c = omega (arith, lacking_small _ _ _ c.requires, c.well_formed.0.0)

pub contact_at-requires : goal.contact_at-requires
contact_at-requires c = rw c.position_with.ensures (lacking_few _ _ _ c.requires)

pub returns : goal.returns
returns c = c.contact_at.ensures ∙ ap (contact_at _) c.position_with.ensures ∙ sym (lacking_contact _ _ _)
