-- What the parts of the operation ask and leave. Definitions only.
-- Assumes nothing.
use Rattle.std.specs.Prelude.{ℕ, zero, suc, ◌^◌, ◌<◌, ◌≤◌, List, [], ◌++◌, length, get_or}
use Rattle.temporal.specs.Plan.{Terms}
use Rattle.temporal.specs.OutcomeDrawn.{records_size}
use Rattle.temporal.specs.Drawing.{drawn_record}
use Rattle.loads.specs.Largest.{LoadsReady}

-- the record of station v by the entries of two tables
abbrev pub entry_record : List ℕ → List ℕ → ℕ → List ℕ
entry_record pairs loads v = drawn_record v (get_or loads v 0) (get_or pairs v 0)

-- the records of k stations, from one on
unfoldable pub records_from : List ℕ → List ℕ → ℕ → ℕ → List ℕ
records_from pairs loads v zero = []
records_from pairs loads v (suc k) = entry_record pairs loads v ++ records_from pairs loads (suc v) k

-- what writing the records of n stations asks: room, and entries below 2^49
pub record Drawable (n : ℕ) (pairs loads records : List ℕ) : Type 0 where
  pub pairs_room : n ≤ length pairs
  pub loads_room : n ≤ length loads
  pub records_room : records_size n ≤ length records
  pub pairs_low : (v : ℕ) → v < n → get_or pairs v 0 < 2 ^ 49
  pub loads_low : (v : ℕ) → v < n → get_or loads v 0 < 2 ^ 49

-- what the operation asks once 1 to 8, 12 and 14 are excluded
pub record DrawnReady (bs : List ℕ) (n t : ℕ) (terms : Terms) (pairs loads records work : List ℕ) : Type 0 where
  pub ready : LoadsReady bs n t terms n pairs loads work
  pub records_room : records_size n ≤ length records
