-- Entries in the work area: an entry has its hops at a place and its count n places later. Definitions only.
-- Assumes nothing.
use Rattle.std.specs.Prelude.{ℕ, ◌+◌, ◌<◌, ◌≤◌, min, Bool, false, cond, List, length, nat_lt, slice_index, slice_set}
use Rattle.entries.specs.Entry.{merged_count, overflows}
use Rattle.pass.specs.Row.{combined, merged_row}

-- d walks of l hops are taken into the entry at a place
unfoldable pub merged_area : ℕ → List ℕ → ℕ → ℕ → ℕ → List ℕ
merged_area n w at l d =
    slice_set (slice_set w at (min (slice_index w at) l)) (at + n) (merged_count (slice_index w at) (slice_index w (at + n)) l d)

-- the same with the row at a place and the row that comes with the walks
unfoldable pub absorbed : ℕ → ℕ → List ℕ → ℕ → ℕ → ℕ → ℕ → ℕ → List ℕ
absorbed n block w at row from l d = merged_area n (combined (merged_row (slice_index w at) l) w row from block) at l d

-- whether the entry at a place has a count over 2^64 - 1
abbrev pub area_overflows : ℕ → List ℕ → ℕ → Bool
area_overflows n w at = overflows (slice_index w at) (slice_index w (at + n))

-- whether a station has a settled walk; a number that is no station's has none
unfoldable pub reached_entry : ℕ → List ℕ → ℕ → Bool
reached_entry n w v = cond (nat_lt v n) (nat_lt (slice_index w v) 65535) false

-- what taking in asks: the entry lies before its row, and the rows within the list
pub record Absorbable (n block : ℕ) (w : List ℕ) (at row from : ℕ) : Type 0 where
  pub some : 0 < n
  pub before : at + n < row
  pub row_fits : row + block ≤ length w
  pub from_fits : from + block ≤ length w
