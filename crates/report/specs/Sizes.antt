-- The numbers of stations and of slots that the load program forms from its input, and its limits. Definitions only.
-- Assumes nothing.
use Rattle.std.specs.Prelude.{ℕ, ◌+◌, ◌-◌, ◌%◌, max, Bool, not, cond, ◌||◌, List, [], ◌∷◌, map, ltb, eqb, length}
use Rattle.temporal.specs.Lists.{below}
use Rattle.temporal.specs.Bytes.{contact_at, records}

-- the largest of a list; 0 of none
unfoldable pub largest : List ℕ → ℕ
largest [] = 0
largest (x ∷ l) = max x (largest l)

-- the larger station number of the record at a position
unfoldable pub top_station : List ℕ → ℕ → ℕ
top_station bs i = max (contact_at bs i).sender (contact_at bs i).hearer

-- n: one more than the largest station number of all records; 1 for an empty input
unfoldable pub input_stations : List ℕ → ℕ
input_stations bs = largest (map (top_station bs) (below (records bs))) + 1

-- T: the last record's slot; 1 for an empty input
unfoldable pub input_slots : List ℕ → ℕ
input_slots bs = cond (eqb (records bs) 0) 1 (contact_at bs (records bs - 1)).slot

-- the program's 2: not a multiple of 6 bytes, or over 1,024 records
unfoldable pub wrong_input : List ℕ → Bool
wrong_input bs = not (eqb (length bs % 6) 0) || ltb 1024 (records bs)

-- the program's 1: n over 32, or T over 63. (T = 0 is 1 of every operation.)
unfoldable pub over_limits : ℕ → ℕ → Bool
over_limits n t = ltb 32 n || ltb 63 t
