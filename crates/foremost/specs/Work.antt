-- What the inner functions of the operation on shortest foremost paths ask and leave. Definitions only.
-- Assumes nothing.
use Rattle.std.specs.Prelude.{ℕ, ◌+◌, ◌<◌, ◌≤◌, min, ◌≡◌, Bool, true, false, cond, Option, MatchOption, Result, Ok, Err, List, eqb, length, get_or, drop}
use Rattle.temporal.specs.Plan.{Terms, Lasting}
use Rattle.temporal.specs.Bytes.{plan_of}
use Rattle.temporal.specs.Shortest.{hops, count}
use Rattle.temporal.specs.Foremost.{arrival, foremost_paths}
use Rattle.temporal.specs.Cause.{plan_fault, appearance_too_many}
use Rattle.temporal.specs.Outcome.{work_size}
use Rattle.temporal.specs.OutcomeForemost.{foremost_through}
use Rattle.pass.specs.declared.Stopped.{Stopped}
use Rattle.pass.specs.declared.Stopped.TheVariants as stopped
use Rattle.pass.specs.PassedColumns.{waiting, area_size}

-- whether a pass met an appearance with over 2^64 - 1 shortest walks
unfoldable pub met_appearance : Result ℕ Stopped → Bool
met_appearance (Ok e) = false
met_appearance (Err stopped.StationTooMany) = false
met_appearance (Err stopped.AppearanceTooMany) = true
met_appearance (Err stopped.TooWide) = true

-- an accepted plan, units in whose slots nothing goes stale, a source and a work area that is long enough
pub record AppearancesReady (bs : List ℕ) (n t : ℕ) (terms : Terms) (s : ℕ) (work : List ℕ) : Type 0 where
  pub accepted : plan_fault bs n t ≡ 0
  pub units : Lasting t terms
  pub source : s < n
  pub fits : area_size n (waiting t terms) 0 ≤ length work

-- whether an appearance has over 2^64 - 1 shortest walks from s; nothing past the pass's part of the work area is touched
pub record Appearances (bs : List ℕ) (n t : ℕ) (terms : Terms) (s : ℕ) (old new : List ℕ) (r : Bool) : Type 0 where
  pub met : r ≡ appearance_too_many (plan_of bs n t terms) s
  pub beyond : drop (area_size n (waiting t terms) 0) new ≡ drop (area_size n (waiting t terms) 0) old
  pub same_length : length new ≡ length old

-- The arrival or the last slot, every station's through count in the table, and hops and count of the shortest foremost paths in the
-- work area.
pub record ForemostsBy (bs : List ℕ) (n t : ℕ) (terms : Terms) (s z : ℕ) (through' work' : List ℕ) (e : ℕ) : Type 0 where
  pub few : appearance_too_many (plan_of bs n t terms) s ≡ false
  pub slot : e ≡ min t (arrival (plan_of bs n t terms) s z)
  pub pair_hops : get_or work' z 0 ≡ hops (foremost_paths (plan_of bs n t terms) s z)
  pub pair_count : get_or work' (n + z) 0 ≡ count (foremost_paths (plan_of bs n t terms) s z)
  pub counted : (v : ℕ) → v < n → get_or through' v 0 ≡ foremost_through (plan_of bs n t terms) s z v

-- Whether an appearance has over 2^64 - 1 shortest walks from s, where there is no slot; else these.
pub record Foremosts (bs : List ℕ) (n t : ℕ) (terms : Terms) (s z : ℕ) (through work through' work' : List ℕ) (r : Option ℕ) : Type 0 where
  pub answer : MatchOption r (appearance_too_many (plan_of bs n t terms) s ≡ true) (ForemostsBy bs n t terms s z through' work')
  pub table_beyond : drop n through' ≡ drop n through
  pub table_length : length through' ≡ length through
  pub area_beyond : drop (work_size n t) work' ≡ drop (work_size n t) work
  pub area_length : length work' ≡ length work

-- the slot of the answer, from the slot in which the pass ended: 65535 where there is no path
unfoldable pub slot_value : ℕ → ℕ → ℕ
slot_value slot h = cond (eqb h 65535) 65535 slot
