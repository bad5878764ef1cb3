-- The state of the pass: what the tables hold before slot u is done with, the records below j being folded in, where what is
-- heard waits q slots; that it holds at the begin, is kept by a record folded in and by the end of a slot, and gives the filled
-- tables at the end.
-- Assumes nothing.
use Prim.Native.Nat.{ℕ, ◌+◌, ◌-◌, ◌*◌, ◌<◌, ◌≤◌}
use native.Mathlib.Omega.{arith}
use mathlib.Core.Path.{◌≡◌}
use mathlib.Core.List.{List}
use lib.ListN.{get_or}
use Rattle.temporal.specs.Plan.{start, Terms}
use Rattle.temporal.specs.Bytes.{contact_at, records, plan_of}
use Rattle.counting.proofs.Weights.{total, everywhere}
use Rattle.counting.proofs.Recurrence.{at_appearance, heard, arrivals}
use Rattle.reach_entries.specs.Table.{Fits}
use Rattle.reach_entries.specs.Pass.{Tables, Beyond}
use Rattle.reach_entries.proofs.EntryLaws.{EntryAt}

-- walks from s to the appearance (v, u), by hops
abbrev pub reaching : List ℕ → ℕ → ℕ → Terms → ℕ → ℕ → ℕ → ℕ → ℕ
reaching bs n t terms s v u = total (plan_of bs n t terms) everywhere (start s) (at_appearance v u)

-- walks from s to appearances of v by slot e, by hops
abbrev pub present : List ℕ → ℕ → ℕ → Terms → ℕ → ℕ → ℕ → ℕ → ℕ
present bs n t terms s v e = total (plan_of bs n t terms) everywhere (start s) (heard v e)

-- walks to the appearance (v, u) whose last contact is one of the records below j, by hops
abbrev pub arriving : List ℕ → ℕ → ℕ → Terms → ℕ → ℕ → ℕ → ℕ → ℕ → ℕ
arriving bs n t terms s u j v = arrivals (plan_of bs n t terms) s everywhere j v u

pub record TablesState (bs : List ℕ) (n t : ℕ) (terms : Terms) (s q : ℕ) (old : Tables) (u j : ℕ) (x : Tables) : Type 0 where
  -- slot 0 is done with
  pub after_start : 0 < u
  -- slots below u are done with
  pub complete : (v r : ℕ) → v < n → r < u → r < t + 1 → EntryAt (reaching bs n t terms s v r) x.appearances (v * (t + 1) + r)
  -- slot u has what the records below j bring
  pub pending : (v : ℕ) → v < n → u < t + 1 → EntryAt (arriving bs n t terms s u j v) x.appearances (v * (t + 1) + u)
  -- later slots have nothing
  pub later_hops : (v r : ℕ) → v < n → u < r → r < t + 1 → get_or x.appearances.hops (v * (t + 1) + r) 0 ≡ 65535
  pub later_counts : (v r : ℕ) → v < n → u < r → r < t + 1 → get_or x.appearances.counts (v * (t + 1) + r) 0 ≡ 0
  -- a station has what is there q slots before slot u
  pub station : (v : ℕ) → v < n → EntryAt (present bs n t terms s v (u - q)) x.stations v
  -- the records below j lie in slots up to u, the others in u or later
  pub passed : (i : ℕ) → i < j → (contact_at bs i).slot ≤ u
  pub rest : (i : ℕ) → j ≤ i → i < records bs → u ≤ (contact_at bs i).slot
  pub within : j ≤ records bs
  pub fits : Fits n (t + 1) x.appearances x.stations
  pub appearances_beyond : Beyond (n * (t + 1)) old.appearances x.appearances
  pub stations_beyond : Beyond n old.stations x.stations

-- tables that are nothing shorter still fit
pub fits_beyond :
    (n width : ℕ) (old new : Tables) → Fits n width old.appearances old.stations →
    Beyond (n * width) old.appearances new.appearances → Beyond n old.stations new.stations →
    Fits n width new.appearances new.stations
fits_beyond n width old new f b c =
    record {
      hops = let e = b.hops_length in let g = f.hops in omega arith;
      counts = let e = b.counts_length in let g = f.counts in omega arith;
      station_hops_law = let e = c.hops_length in let g = f.station_hops_law in omega arith;
      station_counts_law = let e = c.counts_length in let g = f.station_counts_law in omega arith;
    }
