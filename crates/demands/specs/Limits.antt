-- The plans within the limits: the rules of document 01's section "Plan bytes", with document 02's C-16, as facts about numbers.
-- Definitions only.
-- Assumes nothing.
use Rattle.std.specs.Prelude.{ℕ, ◌+◌, ◌*◌, ◌≤◌, ◌<◌, ◌≡◌, ◌⊎◌, ◌≢◌, List, length}
use Rattle.temporal.specs.Plan.{Contact}
use Rattle.temporal.specs.Bytes.{contact_at, records}

-- Document 01's "rise strictly by (slot, a, b)": d is above c.
unfoldable pub Above : Contact → Contact → Type 0
Above c d =
    (c.slot < d.slot) ⊎ ((c.slot ≡ d.slot) × ((c.sender < d.sender) ⊎ ((c.sender ≡ d.sender) × (c.hearer < d.hearer))))

-- The bytes are a plan of n stations and t slots within the limits.
pub record WithinLimits (bs : List ℕ) (n t : ℕ) : Type 0 where
  -- "n 1 to 256, T 1 to 255"
  pub stations : (1 ≤ n) × (n ≤ 256)
  pub slots : (1 ≤ t) × (t ≤ 255)
  -- "records of 6 bytes, no header", "the limit becomes 8,192" (C-16)
  pub whole : length bs ≡ 6 * records bs
  pub few : records bs ≤ 8192
  -- slots are "numbered 1 to T"
  pub slot : (i : ℕ) → i < records bs → (1 ≤ (contact_at bs i).slot) × ((contact_at bs i).slot ≤ t)
  -- not "a equals b, or either is ≥ n" (C-16)
  pub ends : (i : ℕ) → i < records bs →
      ((contact_at bs i).sender ≢ (contact_at bs i).hearer) × (((contact_at bs i).sender < n) × ((contact_at bs i).hearer < n))
  -- each record is above the one before it
  pub order : (i : ℕ) → i + 1 < records bs → Above (contact_at bs i) (contact_at bs (i + 1))
