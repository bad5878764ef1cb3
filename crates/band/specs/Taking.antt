-- Taking in and taking out as one: what each does to an entry and its slot's records. Definitions only.
-- Assumes nothing.
use Rattle.std.specs.Prelude.{ℕ, ◌+◌, ◌-◌, ◌≤◌, ◌<◌, Bool, List, map, ltb, length, get_or}
use Rattle.temporal.specs.Lists.{below, any}
use Rattle.temporal.specs.Bytes.{contact_at, records}
use Rattle.temporal.specs.Outcome.{Outcome, over}
use Rattle.temporal.specs.Band.{records_in, band_slots, take_in, take_out}
use Rattle.band.specs.declared.Taking.{Taking}
use Rattle.band.specs.declared.Taking.TheVariants.{In, Out}

-- an entry refuses a slot's records
abbrev pub refuses : Taking → ℕ → ℕ → Bool
refuses (In c) entry more = ltb c (entry + more)
refuses Out entry more = ltb entry more

-- an entry after it
abbrev pub changed : Taking → ℕ → ℕ → ℕ
changed (In c) entry more = entry + more
changed Out entry more = entry - more

-- 15 or 16
abbrev pub refusal_number : Taking → ℕ
refusal_number (In c) = 15
refusal_number Out = 16

unfoldable pub refused_somewhere : Taking → List ℕ → List ℕ → Bool
refused_somewhere taking bs old = any (λ j. refuses taking (get_or old j 0) (records_in bs (j + 1))) (below band_slots)

unfoldable pub changed_table : Taking → List ℕ → List ℕ → List ℕ
changed_table taking bs old = over (map (λ j. changed taking (get_or old j 0) (records_in bs (j + 1))) (below band_slots)) old

-- either operation
unfoldable pub taken_by : Taking → List ℕ → ℕ → ℕ → List ℕ → Outcome (Unit {0}) (List ℕ)
taken_by (In c) bs n t old = take_in bs n t c old
taken_by Out bs n t old = take_out bs n t old

-- what going through the slots asks: records from slot 1 on that rise by slot, as an accepted plan has them
pub record Slotted (bs : List ℕ) : Type 0 where
  pub few : records bs ≤ 8192
  pub from_one : (i : ℕ) → i < records bs → 0 < (contact_at bs i).slot
  pub rising : (i k : ℕ) → i ≤ k → k < records bs → (contact_at bs i).slot ≤ (contact_at bs k).slot

-- and a table that is long enough
pub record Lent (bs table : List ℕ) : Type 0 where
  pub slotted : Slotted bs
  pub room : band_slots ≤ length table
