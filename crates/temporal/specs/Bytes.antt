-- Plan bytes: records of 6 bytes, no header. Definitions only.
-- Assumes nothing.
use Rattle.std.specs.Prelude.{ℕ, ◌+◌, ◌*◌, ◌/◌, List, map, length, get_or}
use Rattle.temporal.specs.Lists.{below}
use Rattle.temporal.specs.Plan.{Contact, Plan, Terms}

-- the 16-bit number whose first byte stands at k, high byte first; a byte past the end counts as 0
unfoldable pub word_at : List ℕ → ℕ → ℕ
word_at bs k = get_or bs k 0 * 256 + get_or bs (k + 1) 0

-- the record at position i: slot, a (the sender), b (the hearer), each 16 bits
unfoldable pub contact_at : List ℕ → ℕ → Contact
contact_at bs i = record { slot = word_at bs (i * 6); sender = word_at bs (i * 6 + 2); hearer = word_at bs (i * 6 + 4) }

-- how many whole records there are
unfoldable pub records : List ℕ → ℕ
records bs = length bs / 6

-- the plan that bytes say; the numbers of stations and of slots and the units' terms come with the call
unfoldable pub plan_of : List ℕ → ℕ → ℕ → Terms → Plan
plan_of bs n t terms = record { stations = n; slots = t; contacts = map (contact_at bs) (below (records bs)); terms = terms }
