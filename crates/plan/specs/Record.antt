-- The code's record as a contact of the definitions, the test for a record of a slot, and the records of a slot from a position on.
-- Definitions only.
-- Assumes nothing.
use Rattle.std.specs.Prelude.{ℕ, ◌<◌, ◌≤◌, ◌≡◌, Bool, true, false, ◌&&◌, List, ltb, eqb}
use Rattle.temporal.specs.Plan as temporal
use Rattle.temporal.specs.Bytes.{contact_at, records}
use Rattle.plan.specs.declared.Contact.{Contact}

-- the contact that a struct of the code holds
abbrev pub contact_of : Contact → temporal.Contact
contact_of r = record { slot = r.slot; sender = r.sender; hearer = r.hearer }

-- whether there is a record at position j and it lies in slot u
unfoldable pub in_slot : List ℕ → ℕ → ℕ → Bool
in_slot bs j u = ltb j (records bs) && eqb (contact_at bs j).slot u

-- the records from position j to before e are those of slot u from j on
pub record SlotRecords (bs : List ℕ) (u j e : ℕ) : Type 0 where
  pub from : j ≤ e
  pub here : (i : ℕ) → j ≤ i → i < e → in_slot bs i u ≡ true
  pub past : in_slot bs e u ≡ false
