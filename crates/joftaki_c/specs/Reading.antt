-- The number and the slots of read_record. Definitions only.
-- Assumes nothing.
use Rattle.std.specs.Prelude.{ℕ, ◌≡◌, List}
use Rattle.temporal.specs.Drawing.{ReadBack, foreign, station, Reads}

-- the three slots
pub record ReadSlots : Type 0 where
  pub station : ℕ
  pub load : ℕ
  pub pairs : ℕ

abbrev pub read_slots : ℕ → ℕ → ℕ → ReadSlots
read_slots v load pairs = record { station = v; load = load; pairs = pairs }

-- the number of an answer: 102 is document 02's "foreign", which is no refusal
abbrev pub read_code : ReadBack → ℕ
read_code foreign = 102
read_code (station v load pairs) = 0

-- the slots behind an answer: foreign writes nothing
abbrev pub slots_after : ReadBack → ReadSlots → ReadSlots
slots_after foreign old = old
slots_after (station v load pairs) old = read_slots v load pairs

-- a number and the slots at exit are those of the answer that belongs to the bytes
pub record ReadGiven (bytes : List ℕ) (r : ℕ) (old new : ReadSlots) : Type 0 where
  pub answer : ReadBack
  pub reads : Reads bytes answer
  pub code : r ≡ read_code answer
  pub slots : new ≡ slots_after answer old
