-- What the operation asks once 12, 14, 6 to 8, and 11, are excluded, and what is read off the pass. Definitions only.
-- Assumes nothing.
use Rattle.std.specs.Prelude.{ℕ, ◌+◌, ◌-◌, ◌*◌, ◌<◌, ◌≤◌, ◌≡◌, cond, List, ◌≢◌, eqb, length, get_or}
use Rattle.temporal.specs.Plan.{Terms, Allowed}
use Rattle.temporal.specs.Cause.{plan_fault}
use Rattle.temporal.specs.Outcome.{work_size}
use Rattle.calls.specs.Call.{pair_call_fault}

-- an accepted plan, units that no cause refuses, two different stations, a set and a work area that are long enough
pub record SetAsked (bs : List ℕ) (n t : ℕ) (terms : Terms) (s z : ℕ) (set work : List ℕ) : Type 0 where
  pub accepted : plan_fault bs n t ≡ 0
  pub free : pair_call_fault n t terms s z (length set) n (length work) ≡ 0
  pub units : Allowed terms
  pub source : s < n
  pub destination : z < n
  pub different : s ≢ z
  pub set_room : n ≤ length set
  pub area : work_size n t ≤ length work

-- what the pass leaves for the destination: the count less its entry; 0 where there is no walk
unfoldable pub touched_entry : List ℕ → ℕ → ℕ → ℕ
touched_entry work n z = cond (eqb (get_or work z 0) 65535) 0 (get_or work (n + z) 0 - get_or work (2 * n + z) 0)

-- what reading it asks: it lies within the work area, and is at most the count
pub record Readable (n z : ℕ) (work : List ℕ) : Type 0 where
  pub station : z < n
  pub few : n ≤ 256
  pub fits : 3 * n ≤ length work
  pub at_most : get_or work z 0 ≢ 65535 → get_or work (2 * n + z) 0 ≤ get_or work (n + z) 0
