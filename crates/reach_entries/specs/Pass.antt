-- The pass over a plan's records: how it begins, and what the tables hold at its end. Definitions only.
-- Assumes nothing.
use Rattle.std.specs.Prelude.{ℕ, ◌+◌, ◌*◌, ◌<◌, ◌≡◌, Bool, ◌||◌, List, length, get_or, set, drop, replicate}
use Rattle.temporal.specs.Plan.{Terms, Allowed}
use Rattle.temporal.specs.Lists.{any, below}
use Rattle.temporal.specs.Bytes.{plan_of}
use Rattle.temporal.specs.Cause.{plan_fault}
use Rattle.temporal.specs.Shortest.{shortest_walks, shortest_walks_to, hops, count}
use Rattle.temporal.specs.Outcome.{over}
use Rattle.entries.specs.Entry.{stored}
use Rattle.reach_entries.specs.Table.{Table, table_of, table_overflows, Fits}

-- the appearances' table and the stations' table
pub record Tables : Type 0 where
  pub appearances : Table
  pub stations : Table

abbrev pub tables_of : List ℕ → List ℕ → List ℕ → List ℕ → Tables
tables_of h c sh sc = record { appearances = table_of h c; stations = table_of sh sc }

-- no walks anywhere but the empty one, which ends at the source in slot 0; the source may send it on
unfoldable pub begun_tables : ℕ → ℕ → ℕ → Tables → Tables
begun_tables n width s x =
    tables_of
    (set (over (replicate (n * width) 65535) x.appearances.hops) (s * width) 0)
    (set (over (replicate (n * width) 0) x.appearances.counts) (s * width) 1)
    (set (over (replicate n 65535) x.stations.hops) s 0)
    (set (over (replicate n 0) x.stations.counts) s 1)

-- the named parts are 0
unfoldable pub emptied_tables : ℕ → ℕ → Tables → Tables
emptied_tables n width x =
    tables_of
    (over (replicate (n * width) 0) x.appearances.hops) (over (replicate (n * width) 0) x.appearances.counts)
    (over (replicate n 0) x.stations.hops) (over (replicate n 0) x.stations.counts)

-- whether some entry of the named parts has a count over 2^64 - 1
unfoldable pub tables_overflow : ℕ → ℕ → Tables → Bool
tables_overflow n width x =
    any (table_overflows x.appearances) (below (n * width)) || any (table_overflows x.stations) (below n)

-- the entries at j are the hops and the count of the list l
pub record EntryHolds (x : Table) (j : ℕ) (l : List (List ℕ)) : Type 0 where
  pub hops_there : get_or x.hops j 0 ≡ hops l
  pub count_there : get_or x.counts j 0 ≡ stored (count l)

-- the lists of y beyond the first k entries are those of x
pub record Beyond (k : ℕ) (x y : Table) : Type 0 where
  pub hops : drop k y.hops ≡ drop k x.hops
  pub counts : drop k y.counts ≡ drop k x.counts
  pub hops_length : length y.hops ≡ length x.hops
  pub counts_length : length y.counts ≡ length x.counts

-- every entry is filled from the source, and nothing past the named parts is touched
pub record FilledTables (bs : List ℕ) (n t : ℕ) (terms : Terms) (s : ℕ) (old new : Tables) : Type 0 where
  pub appearance :
      (v u : ℕ) → v < n → u < t + 1 → EntryHolds new.appearances (v * (t + 1) + u) (shortest_walks (plan_of bs n t terms) s v u)
  pub station : (v : ℕ) → v < n → EntryHolds new.stations v (shortest_walks_to (plan_of bs n t terms) s v)
  pub appearances_beyond : Beyond (n * (t + 1)) old.appearances new.appearances
  pub stations_beyond : Beyond n old.stations new.stations

-- what filling the tables asks: an accepted plan, allowed terms, a source in the plan, and tables that fit
pub record ReachReady (bs : List ℕ) (n t : ℕ) (terms : Terms) (s : ℕ) (x : Tables) : Type 0 where
  pub accepted : plan_fault bs n t ≡ 0
  pub units : Allowed terms
  pub source : s < n
  pub fits : Fits n (t + 1) x.appearances x.stations
