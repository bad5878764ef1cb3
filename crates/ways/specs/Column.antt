-- Filling the completion table where nothing goes stale: what the functions leave on a flat list with width entries a station, and what
-- they ask. Definitions only.
-- Assumes nothing.
use Rattle.std.specs.Prelude.{ℕ, ◌+◌, ◌-◌, ◌*◌, ◌<◌, min, ◌≡◌, Bool, cond, ◌&&◌, List, ltb, eqb, length, get_or, set, drop}
use Rattle.temporal.specs.Plan.{Contact}
use Rattle.temporal.specs.Bytes.{contact_at}

-- the entry at a place is lowered to one more than another entry, where that is less
unfoldable pub lowered : List ℕ → ℕ → ℕ → List ℕ
lowered l at from = set l at (min (get_or l at 0) (get_or l from 0 + 1))

-- over a contact: the sender's entry of the start's column by the hearer's of the contact's own column
unfoldable pub folded_back : ℕ → Contact → List ℕ → List ℕ
folded_back width c l = lowered l (c.sender * width) (c.hearer * width + c.slot)

-- the hearer's entry of the contact's own column becomes that of the start's
unfoldable pub stored_back : ℕ → Contact → List ℕ → List ℕ
stored_back width c l = set l (c.hearer * width + c.slot) (get_or l (c.hearer * width) 0)

-- whether there is a record before position i, and the one before position j lies fewer than g slots after it
unfoldable pub is_due : List ℕ → ℕ → ℕ → ℕ → Bool
is_due bs g i j = ltb 0 i && ltb ((contact_at bs (j - 1)).slot - (contact_at bs (i - 1)).slot) g

-- in the start's column nothing leads to z but, at z itself, the empty walk; the entries past the table and the length are kept
pub record Begun (n width z : ℕ) (old new : List ℕ) : Type 0 where
  pub start : (v : ℕ) → v < n → get_or new (v * width) 0 ≡ cond (eqb v z) 0 65535
  pub beyond : drop (n * width) new ≡ drop (n * width) old
  pub same : length new ≡ length old

-- what folding a record in and storing it ask: the record is there, and its entries lie within the list
pub record RecordWithin (bs : List ℕ) (width j : ℕ) (l : List ℕ) : Type 0 where
  pub inside : j * 6 + 5 < length bs
  pub sender_entry : (contact_at bs j).sender * width < length l
  pub hearer_entry : (contact_at bs j).hearer * width + (contact_at bs j).slot < length l
