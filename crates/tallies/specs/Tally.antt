-- What the tallies ask and what they promise: the pairs and the load of every station over the sources below k, or that a count
-- from one of them is over 2^64 - 1.
-- Definitions only.
-- Assumes nothing.
use Rattle.std.specs.Prelude.{ℕ, ◌+◌, ◌-◌, ◌*◌, ◌<◌, ◌≤◌, ◌≡◌, Bool, false, List, length, get_or, drop}
use Rattle.temporal.specs.Plan.{Terms, Allowed}
use Rattle.temporal.specs.Bytes.{plan_of}
use Rattle.temporal.specs.Cause.{plan_fault, too_many_below}
use Rattle.temporal.specs.Load.{partial_pairs, partial_load}
use Rattle.temporal.specs.Outcome.{work_size}
use Rattle.forward.specs.Passed.{most_columns}

-- how many stations one pass has rows for, so that its part of the work area leaves room for the tallies, two entries a station; d
-- appearances of a station are kept where readings go stale
unfoldable pub block_of : ℕ → ℕ → Terms → ℕ → ℕ
block_of n t terms d = most_columns n t terms d (4 * (t + 1) - 2)

-- where the tallies begin, at the end of the work area: the pairs of v stand v entries from there on, its load n + v
unfoldable pub tally_base : ℕ → ℕ → ℕ
tally_base n t = (4 * (t + 1) - 2) * n

-- what the tallies ask: an accepted plan, units that no cause refuses, sources that are stations, and a work area that is long enough
pub record Tallyable (bs : List ℕ) (n t : ℕ) (terms : Terms) (k : ℕ) (work : List ℕ) : Type 0 where
  pub accepted : plan_fault bs n t ≡ 0
  pub sources : k ≤ n
  pub units : Allowed terms
  pub fits : work_size n t ≤ length work

-- What the tallies promise: whether a count from a source below k is over 2^64 - 1, exactly; where none is, the pairs and the
-- load of every station over these sources; and that nothing past the named part of the work area is touched.
pub record Tallied (bs : List ℕ) (n t : ℕ) (terms : Terms) (k : ℕ) (old new : List ℕ) (r : Bool) : Type 0 where
  pub too_many : r ≡ too_many_below (plan_of bs n t terms) k
  pub station_pairs : r ≡ false → (v : ℕ) → v < n → get_or new (tally_base n t + v) 0 ≡ partial_pairs (plan_of bs n t terms) k v
  pub station_loads : r ≡ false → (v : ℕ) → v < n → get_or new (tally_base n t + n + v) 0 ≡ partial_load (plan_of bs n t terms) k v
  pub beyond : drop (work_size n t) new ≡ drop (work_size n t) old
  pub same_length : length new ≡ length old
