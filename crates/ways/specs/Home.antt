-- The completion table: for the appearances that walks come to the fewest hops from there to a destination. Definitions only.
-- Assumes nothing.
use Rattle.std.specs.Prelude.{ℕ, ◌+◌, ◌*◌, ◌<◌, ◌≤◌, ◌≡◌, List, length, get_or, drop}
use Rattle.temporal.specs.Plan.{Plan, Terms, Appearance, Allowed}
use Rattle.temporal.specs.Walk.{ends_in, is_at}
use Rattle.temporal.specs.Shortest.{shortest, hops}
use Rattle.temporal.specs.Bytes.{contact_at, records, plan_of}
use Rattle.temporal.specs.Cause.{plan_fault}

-- the appearance of station v in slot u
abbrev pub appearance : ℕ → ℕ → Appearance
appearance v u = record { station = v; slot = u }

-- the fewest hops of a walk from an appearance to station z; 65535 where there is none
unfoldable pub home_from : Plan → ℕ → Appearance → ℕ
home_from p z x = hops (shortest p (ends_in p x (is_at z)))

-- the same for the appearance of station v in slot u
abbrev pub home_hops : Plan → ℕ → ℕ → ℕ → ℕ
home_hops p z v u = home_from p z (appearance v u)

-- A table whose entry at place v (T + 1) + u is what the appearance (v, u) has to go, for the appearances that walks come to: every
-- station's start, and every record's hearer in the record's slot. Nothing is said of other entries.
pub record Table (bs : List ℕ) (n t : ℕ) (terms : Terms) (z : ℕ) (l : List ℕ) : Type 0 where
  pub fits : n * (t + 1) ≤ length l
  pub start : (v : ℕ) → v < n → get_or l (v * (t + 1)) 0 ≡ home_hops (plan_of bs n t terms) z v 0
  pub heard : (i : ℕ) → i < records bs
      → get_or l ((contact_at bs i).hearer * (t + 1) + (contact_at bs i).slot) 0
      ≡ home_hops (plan_of bs n t terms) z (contact_at bs i).hearer (contact_at bs i).slot

-- what filling the table asks: an accepted plan, allowed terms, a destination in the plan, and room
pub record Completable (bs : List ℕ) (n t : ℕ) (terms : Terms) (z : ℕ) (l : List ℕ) : Type 0 where
  pub accepted : plan_fault bs n t ≡ 0
  pub units : Allowed terms
  pub destination : z < n
  pub fits : n * (t + 1) ≤ length l

-- the table is filled, and the entries past it and the length are kept
pub record Completed (bs : List ℕ) (n t : ℕ) (terms : Terms) (z : ℕ) (old new : List ℕ) : Type 0 where
  pub table : Table bs n t terms z new
  pub beyond : drop (n * (t + 1)) new ≡ drop (n * (t + 1)) old
  pub same : length new ≡ length old
