-- What writing the layered plan asks. Definitions only.
-- Assumes nothing.
use Rattle.std.specs.Prelude.{ℕ, ◌*◌, ◌≤◌, ◌<◌, ◌≡◌, true, false, List, length}
use Rattle.temporal.specs.Plan.{Contact}
use Rattle.temporal.specs.Bytes.{contact_at, records}
use Rattle.layered.specs.Layered.{slot_at, shift}

-- the records' slots do not fall
abbrev pub Sorted : List ℕ → Type 0
Sorted bs = (i k : ℕ) → i ≤ k → k < records bs → (contact_at bs i).slot ≤ (contact_at bs k).slot

-- a contact of n stations whose slot fits a byte
pub record Small (n : ℕ) (c : Contact) : Type 0 where
  pub slot : c.slot < 256
  pub sender : c.sender < n
  pub hearer : c.hearer < n

-- Plan bytes as an accepted plan has them, with at most half the stations and half the records that a plan may have, and room for their
-- layered plan: twice as many bytes.
pub record Layerable (bs : List ℕ) (n : ℕ) (out : List ℕ) : Type 0 where
  pub stations : 2 * n ≤ 256
  pub few : 2 * records bs ≤ 8192
  pub contact : (i : ℕ) → i < records bs → Small n (contact_at bs i)
  pub sorted : Sorted bs
  pub room : 2 * length bs ≤ length out

-- the record at position i goes to a place of the layered plan
pub record Raisable (bs : List ℕ) (n i q : ℕ) (out : List ℕ) : Type 0 where
  pub plan : Layerable bs n out
  pub there : i < records bs
  pub place : q < 2 * records bs

-- place q is one of the slot whose records stand from lo to before hi
pub record Placeable (bs : List ℕ) (n lo hi q : ℕ) (out : List ℕ) : Type 0 where
  pub plan : Layerable bs n out
  pub place : q < 2 * records bs
  pub low : shift bs (slot_at bs q) false ≡ lo
  pub high : shift bs (slot_at bs q) true ≡ hi

-- the records of a slot stand from lo to before hi
pub record SlotBounds (bs : List ℕ) (lo hi : ℕ) : Type 0 where
  pub rises : lo < hi
  pub inside : hi ≤ records bs
  pub low : (q : ℕ) → 2 * lo ≤ q → q < 2 * hi → shift bs (slot_at bs q) false ≡ lo
  pub high : (q : ℕ) → 2 * lo ≤ q → q < 2 * hi → shift bs (slot_at bs q) true ≡ hi
