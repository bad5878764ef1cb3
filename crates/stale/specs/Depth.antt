-- How many appearances are kept. Definitions only.
-- Assumes nothing.
use Rattle.std.specs.Prelude.{◌≡◌, ℕ, zero, suc, ◌+◌, ◌*◌, ◌<◌, ◌≤◌, min, List, length, drop, nat_eq}
use Rattle.temporal.specs.Lists.{below, select}
use Rattle.temporal.specs.Bytes.{contact_at, records}
use Rattle.temporal.specs.Cause.{plan_fault}

-- how many of the first j records are of slot x
unfoldable pub slot_before : List ℕ → ℕ → ℕ → ℕ
slot_before bs x j = length (select (λ i. nat_eq (contact_at bs i).slot x) (below j))

-- no more appearances of slot x are kept: each is that of a record's hearer, and each station has one at most
unfoldable pub slot_load : List ℕ → ℕ → ℕ → ℕ
slot_load bs n x = min n (slot_before bs x (records bs))

-- the sum of f over k numbers from i on
unfoldable pub spread : (ℕ → ℕ) → ℕ → ℕ → ℕ
spread f i zero = 0
spread f i (suc k) = f i + spread f (i + 1) k

-- A depth of the ring, for a plan of n stations where a reading is kept for h slots: no h slots in a row have more appearances than the ring
-- has cells, so an appearance that is overwritten is too old to be sent on.
abbrev pub Deep : List ℕ → ℕ → ℕ → ℕ → Type 0
Deep bs n h d = (0 < d) × ((u : ℕ) → spread (slot_load bs n) u h ≤ n * d)

-- what finding a depth asks: an accepted plan, and a reading that is kept, for no more slots than the limit
pub record DepthReady (bs : List ℕ) (n t h : ℕ) : Type 0 where
  pub accepted : plan_fault bs n t ≡ 0
  pub keeps : 0 < h
  pub most : h ≤ 255

-- what an operation finds: a depth, no larger than h, and that nothing past the stations' numbers is touched
pub record DepthOf (bs : List ℕ) (n h : ℕ) (old new : List ℕ) (r : ℕ) : Type 0 where
  pub deep : Deep bs n h r
  pub most : r ≤ h
  pub beyond : drop n new ≡ drop n old
  pub same_length : length new ≡ length old
