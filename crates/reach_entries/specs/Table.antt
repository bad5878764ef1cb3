-- Tables of hops and counts as the code holds them, and what the inner functions leave in them. Definitions only.
-- Assumes nothing.
use Rattle.std.specs.Prelude.{ℕ, zero, suc, ◌+◌, ◌*◌, ◌<◌, ◌≤◌, min, ◌≡◌, Bool, cond, List, ltb, length, get_or, set}
use Rattle.entries.specs.Entry.{merged_count, overflows}
use Rattle.temporal.specs.Plan.{Contact}
use Rattle.temporal.specs.Bytes.{contact_at}

-- hops and counts, place by place
pub record Table : Type 0 where
  pub hops : List ℕ
  pub counts : List ℕ

abbrev pub table_of : List ℕ → List ℕ → Table
table_of h c = record { hops = h; counts = c }

-- d walks of l hops are taken into the entry at a place
unfoldable pub merged_table : Table → ℕ → ℕ → ℕ → Table
merged_table x at l d =
    table_of
    (set x.hops at (min (get_or x.hops at 0) l))
    (set x.counts at (merged_count (get_or x.hops at 0) (get_or x.counts at 0) l d))

-- what y has at v goes on over one hop more, to the entry of x at a place
unfoldable pub sent_table : Table → Table → ℕ → ℕ → Table
sent_table x y v at =
    cond (ltb (get_or y.hops v 0) 65535) (merged_table x at (get_or y.hops v 0 + 1) (get_or y.counts v 0)) x

-- over a contact: from its sender's entry to its hearer's appearance of its slot, width entries a station
unfoldable pub folded_table : ℕ → Table → Table → Contact → Table
folded_table width x y c = sent_table x y c.sender (c.hearer * width + c.slot)

-- the appearances of slot u are taken into the stations' entries, for k stations from v on
unfoldable pub settled_table : ℕ → ℕ → Table → Table → ℕ → ℕ → Table
settled_table width u x y v zero = y
settled_table width u x y v (suc k) =
    settled_table width u x
    (merged_table y v (get_or x.hops (v * width + u) 0) (get_or x.counts (v * width + u) 0)) (v + 1) k

-- station v's entry of z is that of y with the entry of x at a place taken in
pub record TakenIn (x y z : Table) (v at : ℕ) : Type 0 where
  pub hops : get_or z.hops v 0 ≡ min (get_or y.hops v 0) (get_or x.hops at 0)
  pub count : get_or z.counts v 0 ≡ merged_count (get_or y.hops v 0) (get_or y.counts v 0) (get_or x.hops at 0) (get_or x.counts at 0)

-- whether the entry at j has a count over 2^64 - 1
abbrev pub table_overflows : Table → ℕ → Bool
table_overflows x j = overflows (get_or x.hops j 0) (get_or x.counts j 0)

-- a place of one table and a place of another lie within them
pub record PlacesWithin (x y : Table) (at v : ℕ) : Type 0 where
  pub to_hops : at < length x.hops
  pub to_counts : at < length x.counts
  pub from_hops : v < length y.hops
  pub from_counts : v < length y.counts

-- a table of n stations with width entries each, and one of n stations, fit their lists
pub record Fits (n width : ℕ) (x y : Table) : Type 0 where
  pub hops : n * width ≤ length x.hops
  pub counts : n * width ≤ length x.counts
  pub station_hops_law : n ≤ length y.hops
  pub station_counts_law : n ≤ length y.counts

-- the record at j can be folded in: it is there, its stations and its slot lie within the tables
pub record FoldableTables (bs : List ℕ) (n width j : ℕ) (x y : Table) : Type 0 where
  pub inside : j * 6 + 5 < length bs
  pub sender_station : (contact_at bs j).sender < n
  pub hearer_station : (contact_at bs j).hearer < n
  pub slot : (contact_at bs j).slot < width
  pub fits : Fits n width x y
