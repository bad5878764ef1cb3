-- What the pass asks and promises for any columns, to the slot in which it ends: col gives the column that stands for a station.
-- Definitions only.
-- Assumes nothing.
use Rattle.std.specs.Prelude.{◌≡◌, ℕ, ◌+◌, ◌*◌, ◌^◌, ◌<◌, ◌≤◌, min, Bool, true, false, cond, Result, Ok, Err, ◌≢◌, ◌⊎◌, List, length, drop, ◌==◌, nat_eq, nat_lt, slice_index}
use Rattle.temporal.specs.Plan.{Terms, Lasting}
use Rattle.temporal.specs.Bytes.{plan_of}
use Rattle.temporal.specs.Cause.{plan_fault, appearance_too_many, station_too_many}
use Rattle.temporal.specs.Shortest.{shortest_walks, hops, count}
use Rattle.temporal.specs.Set.{touched_in}
use Rattle.temporal.specs.Foremost.{arrival, walks_by}
use Rattle.pass.specs.declared.Stopped.{Stopped}
use Rattle.pass.specs.declared.Stopped.TheVariants as stopped
use Rattle.pass.specs.Row.{part_size}
use Rattle.pass.specs.Column.{Lanes, columns_in, column_at}

-- in how many parts of the work area the pass has what waits: as many as the turnaround has slots, but no more than there are
abbrev pub waiting : ℕ → Terms → ℕ
waiting t terms = min terms.turnaround t

-- how many entries of the work area the pass uses, with q parts of what waits
abbrev pub area_size : ℕ → ℕ → ℕ → ℕ
area_size n q block = (1 + q) * part_size n block

-- an accepted plan, a turnaround, a source in it that the pass does not wait for, and a work area that is long enough
pub record ColumnsReady (bs : List ℕ) (n t : ℕ) (terms : Terms) (s until block : ℕ) (work : List ℕ) : Type 0 where
  pub accepted : plan_fault bs n t ≡ 0
  pub units : Lasting t terms
  pub source : s < n
  pub other : s ≢ until
  pub fits : area_size n (waiting t terms) block ≤ length work

-- where cause 9 is said to be known not to hold, no appearance has over 2^64 - 1
abbrev pub Spared : Bool → List ℕ → ℕ → ℕ → Terms → ℕ → Type 0
Spared known bs n t terms s = known ≡ true → appearance_too_many (plan_of bs n t terms) s ≡ false

-- The entries by slot e: station z has its hops at z and its count at n + z, and column j of the row at 2 n + z block holds how many
-- of its shortest walks by slot e have no station of that column inside. Nothing is said of a count over 2^64 - 1 and beside it, nor of a
-- row's entry where j stands for z or where there is no walk. A count fits its lane, where an entry has several.
pub record CountedBy (bs : List ℕ) (n t : ℕ) (terms : Terms) (s e : ℕ) (lay : Lanes) (col : ℕ → ℕ) (block : ℕ) (work : List ℕ) : Type 0 where
  pub station_hops_law : (z : ℕ) → z < n → slice_index work z ≡ hops (walks_by (plan_of bs n t terms) s z e)
  pub station_counts_law : (z : ℕ) → z < n → count (walks_by (plan_of bs n t terms) s z e) ≤ 18446744073709551615
      → slice_index work (n + z) ≡ count (walks_by (plan_of bs n t terms) s z e)
  pub rows : (z j : ℕ) → z < n → j < columns_in lay block → col z ≢ j → count (walks_by (plan_of bs n t terms) s z e) ≤ 18446744073709551615
      → hops (walks_by (plan_of bs n t terms) s z e) < 65535
      → column_at lay work (2 * n + z * block) j + touched_in (plan_of bs n t terms) s z (walks_by (plan_of bs n t terms) s z e) (λ v. nat_eq (col v) j)
      ≡ count (walks_by (plan_of bs n t terms) s z e)
  pub thin : (z : ℕ) → z < n → count (walks_by (plan_of bs n t terms) s z e) ≤ 18446744073709551615
      → hops (walks_by (plan_of bs n t terms) s z e) < 65535
      → (lay.lanes ≡ 1) ⊎ (count (walks_by (plan_of bs n t terms) s z e) < 2 ^ lay.width)

-- A pass that ends settled in slot e: the slot in which it reaches the station until, or the last where it does not. No appearance
-- by that slot has over 2^64 - 1; nor has a station, where the pass waits for none.
pub record SettledAt (bs : List ℕ) (n t : ℕ) (terms : Terms) (s until : ℕ) (lay : Lanes) (col : ℕ → ℕ) (block : ℕ) (work : List ℕ) (e : ℕ)
    : Type 0 where
  pub slot : e ≡ min t (arrival (plan_of bs n t terms) s until)
  pub appearances : (v x : ℕ) → v < n → x ≤ e → count (shortest_walks (plan_of bs n t terms) s v x) ≤ 18446744073709551615
  pub stations : n ≤ until → (z : ℕ) → z < n → count (walks_by (plan_of bs n t terms) s z e) ≤ 18446744073709551615
  pub entries : CountedBy bs n t terms s e lay col block work

-- a pass that meets a station with over 2^64 - 1, and no such appearance; it waits for no station
pub record StationMet (bs : List ℕ) (n t : ℕ) (terms : Terms) (s until : ℕ) : Type 0 where
  pub waits_for_none : n ≤ until
  pub appearances : appearance_too_many (plan_of bs n t terms) s ≡ false
  pub station : station_too_many (plan_of bs n t terms) s ≡ true

-- how a pass ends; a count can only be too wide for its lane where an entry has several
unfoldable pub EndedAs : List ℕ → ℕ → ℕ → Terms → ℕ → ℕ → Lanes → (ℕ → ℕ) → ℕ → List ℕ → Result ℕ Stopped → Type 0
EndedAs bs n t terms s until lay col block work (Ok e) = SettledAt bs n t terms s until lay col block work e
EndedAs bs n t terms s until lay col block work (Err stopped.StationTooMany) = StationMet bs n t terms s until
EndedAs bs n t terms s until lay col block work (Err stopped.AppearanceTooMany) = appearance_too_many (plan_of bs n t terms) s ≡ true
EndedAs bs n t terms s until lay col block work (Err stopped.TooWide) = lay.lanes ≢ 1

-- What a pass promises: how it ends, and that nothing past its part of the work area, of so many entries, is touched.
pub record ColumnsPassed (bs : List ℕ) (n t : ℕ) (terms : Terms) (s until : ℕ) (lay : Lanes) (col : ℕ → ℕ) (block size : ℕ) (old new : List ℕ)
    (r : Result ℕ Stopped) : Type 0 where
  pub ends : EndedAs bs n t terms s until lay col block new r
  pub beyond : drop size new ≡ drop size old
  pub same_length : length new ≡ length old

-- the slot in which a pass ended settled; 0 where it met a count over 2^64 - 1
unfoldable pub slot_of : Result ℕ Stopped → ℕ
slot_of (Ok e) = e
slot_of (Err e) = 0

-- what it met then: an appearance, or a station where it waits for none
abbrev pub Overfull : List ℕ → ℕ → ℕ → Terms → ℕ → ℕ → Type 0
Overfull bs n t terms s until = (appearance_too_many (plan_of bs n t terms) s ≡ true) ⊎ StationMet bs n t terms s until

-- why a pass stops while it settles, where an entry has 2^split lanes
unfoldable pub stopped_end : ℕ → Stopped
stopped_end split = cond (split == 0) stopped.AppearanceTooMany stopped.TooWide

-- how a pass ends past the last slot t, where the Boolean says whether some station's settled entry is over 2^64 - 1
unfoldable pub last_ended : ℕ → ℕ → ℕ → Bool → Result ℕ Stopped
last_ended n t until over = cond (nat_lt until n) (Ok t) (cond over (Err stopped.StationTooMany) (Ok t))
