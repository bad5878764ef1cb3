-- A slot settled for the hearers of its records. While it is, a station that is taken in is marked: its count of slot 0, place
-- v * width, is 2 more. Definitions only.
-- Assumes nothing.
use Rattle.std.specs.Prelude.{ℕ, zero, suc, ◌+◌, ◌-◌, ◌*◌, ◌<◌, ◌≤◌, ◌≡◌, cond, List, ◌≢◌, ◌⊎◌, ltb, length, get_or, set}
use Rattle.temporal.specs.Bytes.{contact_at, records}
use Rattle.temporal.specs.Cause.{plan_fault}
use Rattle.plan.specs.Record.{SlotRecords}
use Rattle.reach_entries.specs.Table.{Table, table_of, merged_table, Fits, TakenIn}
use Rattle.reach_entries.specs.Pass.{Tables, Beyond}

-- the hearer of the record at i
abbrev pub hearer_at : List ℕ → ℕ → ℕ
hearer_at bs i = (contact_at bs i).hearer

-- the appearance of slot u is taken into the entry of station v, and v is marked, unless it is already
unfoldable pub settled_once : ℕ → ℕ → Tables → ℕ → Tables
settled_once width u x v =
    cond (ltb (get_or x.appearances.counts (v * width) 0) 2)
    (record {
      appearances = table_of x.appearances.hops
          (set x.appearances.counts (v * width) (get_or x.appearances.counts (v * width) 0 + 2));
      stations = merged_table x.stations v (get_or x.appearances.hops (v * width + u) 0)
          (get_or x.appearances.counts (v * width + u) 0);
    })
    x

-- the mark at a place is taken away, where there is one
unfoldable pub unmarked_at : List ℕ → ℕ → List ℕ
unmarked_at c at = cond (ltb (get_or c at 0) 2) c (set c at (get_or c at 0 - 2))

-- and those of the hearers of k records from i on
unfoldable pub unmarked_by : List ℕ → ℕ → List ℕ → ℕ → ℕ → List ℕ
unmarked_by bs width c i zero = c
unmarked_by bs width c i (suc k) = unmarked_by bs width (unmarked_at c (hearer_at bs i * width)) (i + 1) k

-- no station is marked
abbrev pub Unmarked : ℕ → ℕ → List ℕ → Type 0
Unmarked n width c = (v : ℕ) → v < n → get_or c (v * width) 0 < 2

-- the record at i is there, and its hearer lies within the plan
pub record HearerFits (bs : List ℕ) (n i : ℕ) : Type 0 where
  pub inside : i * 6 + 5 < length bs
  pub station : hearer_at bs i < n

-- the same of the records from j to before e
abbrev pub HearersFit : List ℕ → ℕ → ℕ → ℕ → Type 0
HearersFit bs n j e = (i : ℕ) → j ≤ i → i < e → HearerFits bs n i

-- what settling slot u by the records from j to before e asks
pub record Settleable (bs : List ℕ) (n width u j e : ℕ) (x : Tables) : Type 0 where
  pub fits : Fits n width x.appearances x.stations
  pub slot : u < width
  pub later : 0 < u
  pub up : j ≤ e
  pub hearers : HearersFit bs n j e
  pub unmarked : Unmarked n width x.appearances.counts

-- station v's entry of z is that of y, and v hears none of the records from j to before e
pub record LeftOut (bs : List ℕ) (j e : ℕ) (y z : Table) (v : ℕ) : Type 0 where
  pub hops : get_or z.hops v 0 ≡ get_or y.hops v 0
  pub count : get_or z.counts v 0 ≡ get_or y.counts v 0
  pub unheard : (i : ℕ) → j ≤ i → i < e → v ≢ hearer_at bs i

-- what settling slot u leaves, whose records are those from j to before e: every hearer's entry has its appearance taken in, and an
-- entry that has not is as it was; nothing else is touched
pub record SlotSettled (bs : List ℕ) (n width u j e : ℕ) (old new : Tables) : Type 0 where
  pub appearances : new.appearances ≡ old.appearances
  pub station : (v : ℕ) → v < n →
      TakenIn old.appearances old.stations new.stations v (v * width + u) ⊎ LeftOut bs j e old.stations new.stations v
  pub beyond : Beyond n old.stations new.stations

-- what the end of slot u asks, the records from i on being not settled: an accepted plan with its stations and slots, no more slots of
-- waiting than it has, a slot u no later than the one after which its last slot is settled, tables that fit, and no marks
pub record Endable (bs : List ℕ) (n width q u i : ℕ) (x : Tables) : Type 0 where
  pub accepted : plan_fault bs n (width - 1) ≡ 0
  pub waits : q < width
  pub slot : u + 1 < width + q
  pub cursor : i ≤ records bs
  pub fits : Fits n width x.appearances x.stations
  pub unmarked : Unmarked n width x.appearances.counts

-- what the end of slot u leaves, with the records from e on not settled: where u is at least q, the slot that lies q slots before the next
-- is settled
pub record SlotEnded (bs : List ℕ) (n width q u i : ℕ) (old : Tables) (e : ℕ) (new : Tables) : Type 0 where
  pub short : u < q → (e ≡ i) × (new ≡ old)
  pub records : q ≤ u → SlotRecords bs (u + 1 - q) i e
  pub settled : q ≤ u → SlotSettled bs n width (u + 1 - q) i e old new
