-- The place of the largest of some entries, and what partial loads and busiest ask once the numbers before 9 are excluded.
-- Definitions only.
-- Assumes nothing.
use Rattle.std.specs.Prelude.{ℕ, ◌+◌, ◌<◌, ◌≤◌, ◌≡◌, cond, List, ltb, length, get_or}
use Rattle.temporal.specs.Plan.{Terms, Allowed}
use Rattle.temporal.specs.Cause.{plan_fault}
use Rattle.temporal.specs.Outcome.{work_size}

-- of two places from a place on, the second where it holds the larger number
unfoldable pub better_of : List ℕ → ℕ → ℕ → ℕ → ℕ
better_of l from best u = cond (ltb (get_or l (from + best) 0) (get_or l (from + u) 0)) u best

-- r is the lowest of the k places from a place on that hold the largest number
pub record Largest (l : List ℕ) (from k r : ℕ) : Type 0 where
  pub within : r < k
  pub largest : (u : ℕ) → u < k → get_or l (from + u) 0 ≤ get_or l (from + r) 0
  pub lowest : (u : ℕ) → u < r → get_or l (from + u) 0 < get_or l (from + r) 0

-- what partial loads asks once 1 to 8, 12, 14 and 13 are excluded
pub record LoadsReady (bs : List ℕ) (n t : ℕ) (terms : Terms) (k : ℕ) (pairTable load_table work : List ℕ) : Type 0 where
  pub accepted : plan_fault bs n t ≡ 0
  pub units : Allowed terms
  pub sources : k ≤ n
  pub pairs_room : n ≤ length pairTable
  pub loads_room : n ≤ length load_table
  pub area : work_size n t ≤ length work

-- what busiest asks once 1 to 8, 12 and 14 are excluded
pub record BusiestReady (bs : List ℕ) (n t : ℕ) (terms : Terms) (work : List ℕ) : Type 0 where
  pub accepted : plan_fault bs n t ≡ 0
  pub units : Allowed terms
  pub area : work_size n t ≤ length work
