-- What the pass without rows asks and promises, for several sources at once. Definitions only.
-- Assumes nothing.
use Rattle.std.specs.Prelude.{◌≡◌, ℕ, zero, suc, ◌+◌, ◌*◌, ◌/◌, ◌%◌, ◌≤◌, false, ◌≢◌, List, length, drop}
use Rattle.temporal.specs.Plan.{Terms, Lasting}
use Rattle.temporal.specs.Bytes.{plan_of}
use Rattle.temporal.specs.Cause.{plan_fault, is_too_many}
use Rattle.pass.specs.PassedColumns.{waiting}

-- how many entries of the work area the pass uses for so many sources, with q parts of what waits: an entry for each source in the row of
-- each station, settled and waiting, and a row of bounds
abbrev pub widths_size : ℕ → ℕ → ℕ → ℕ
widths_size n q many = ((1 + q) * n + 1) * many

-- The splits of k sources from s on, two bits each, the first lowest: where the one of a source is not 0, none of its counts is over
-- 2^64 - 1. That its counts fit the lanes of that split is not said: the passes with rows look at it.
unfoldable pub Narrow : List ℕ → ℕ → ℕ → Terms → ℕ → ℕ → ℕ → Type 0
Narrow bs n t terms s zero m = 0 ≤ m
Narrow bs n t terms s (suc k) m =
    (m % 4 ≢ 0 → is_too_many (plan_of bs n t terms) s ≡ false) × Narrow bs n t terms (s + 1) k (m / 4)

-- an accepted plan, units that turn round and with which nothing goes stale, sources in it, and a work area that is long enough
pub record WidthsReady (bs : List ℕ) (n t : ℕ) (terms : Terms) (first many : ℕ) (work : List ℕ) : Type 0 where
  pub accepted : plan_fault bs n t ≡ 0
  pub units : Lasting t terms
  pub sources : first + many ≤ n
  pub few : many ≤ 32
  pub fits : widths_size n (waiting t terms) many ≤ length work

-- the splits, and that nothing past the pass's part of the work area is touched
pub record WidthsFound (bs : List ℕ) (n t : ℕ) (terms : Terms) (first many : ℕ) (old new : List ℕ) (r : ℕ) : Type 0 where
  pub narrow : Narrow bs n t terms first many r
  pub beyond : drop (widths_size n (waiting t terms) many) new ≡ drop (widths_size n (waiting t terms) many) old
  pub same_length : length new ≡ length old
