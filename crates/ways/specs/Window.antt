-- Filling the completion table where a reading is kept for a number of slots: what the functions leave on a flat list with width
-- entries a station, and what they ask. Definitions only.
-- Assumes nothing.
use Rattle.std.specs.Prelude.{ℕ, zero, suc, ◌+◌, ◌-◌, ◌*◌, ◌<◌, ◌≤◌, List, length, replicate}
use Rattle.temporal.specs.Plan.{Contact, Terms, window_first, window_end}
use Rattle.temporal.specs.Bytes.{contact_at}
use Rattle.temporal.specs.Outcome.{over}
use Rattle.memory.specs.Fill.{filled}
use Rattle.ways.specs.Column.{lowered}

-- k entries from a place on are lowered to one more than another entry, where that is less
unfoldable pub lowered_run : List ℕ → ℕ → ℕ → ℕ → List ℕ
lowered_run l at from zero = l
lowered_run l at from (suc k) = lowered_run (lowered l at from) (at + 1) from k

-- over a contact: the sender's entries of the start's column and of the slots that it may follow, by the hearer's of the contact's own
-- column
unfoldable pub folded_window : ℕ → Terms → Contact → List ℕ → List ℕ
folded_window width terms c l =
    lowered_run (lowered l (c.sender * width) (c.hearer * width + c.slot))
    (c.sender * width + window_first terms.keeping c.slot)
    (c.hearer * width + c.slot)
    (window_end terms.turnaround c.slot - window_first terms.keeping c.slot)

-- nothing leads to z but, at z itself in every slot, the empty walk
unfoldable pub begun_window : ℕ → ℕ → ℕ → List ℕ → List ℕ
begun_window n width z l = filled (over (replicate (n * width) 65535) l) (z * width) width 0

-- what folding a record in asks: the record is there, in a slot of the columns, and its entries lie within the list
pub record FoldableWindow (bs : List ℕ) (width j : ℕ) (l : List ℕ) : Type 0 where
  pub inside : j * 6 + 5 < length bs
  pub few : width ≤ 256
  pub from_one : 0 < (contact_at bs j).slot
  pub column : (contact_at bs j).slot < width
  pub sender_row : (contact_at bs j).sender * width + width ≤ length l
  pub hearer_row : (contact_at bs j).hearer * width + width ≤ length l
