-- The pass over a plan's records: what folding a record, settling a slot and the beginning leave in the work area.
-- Station v has its settled entry at v with row row_at v. What waits for it in a part that begins at base is at base + v, with its
-- row at base + row_at v.
-- Definitions only.
-- Assumes nothing.
use Rattle.std.specs.Prelude.{◌≡◌, ℕ, zero, suc, ◌+◌, ◌*◌, ◌/◌, ◌%◌, ◌^◌, ◌<◌, ◌≤◌, Bool, true, false, cond, not, ◌&&◌, ◌||◌, ◌≢◌, List, length, ◌==◌, nat_le, nat_lt, slice_index, slice_set}
use Rattle.temporal.specs.Plan.{Contact}
use Rattle.temporal.specs.Bytes.{contact_at}
use Rattle.memory.specs.Fill.{filled}
use Rattle.entries.specs.Entry.{merged_count}
use Rattle.lanes.specs.Lane.{without_lane}
use Rattle.pass.specs.Row.{part_size, row_at}
use Rattle.pass.specs.Entry.{merged_area, absorbed, area_overflows}
use Rattle.pass.specs.Column.{Lanes}

-- What is settled for v goes on over one hop more, to what waits for x. Where the settled entry of x has fewer hops the row stays: it is
-- not looked at; and where cause 9 is known not to hold, hops and count stay too.
unfoldable pub sent_area : Bool → ℕ → ℕ → ℕ → List ℕ → ℕ → ℕ → List ℕ
sent_area known n block base w v x =
    cond (nat_lt (slice_index w v) 65535)
    (cond (nat_lt (slice_index w v) (slice_index w x))
    (absorbed n block w (base + x) (base + row_at n block x) (row_at n block v) (slice_index w v + 1) (slice_index w (v + n)))
    (cond known w (merged_area n w (base + x) (slice_index w v + 1) (slice_index w (v + n)))))
    w

-- over a contact, from its sender to its hearer
unfoldable pub folded_area : Bool → ℕ → ℕ → ℕ → List ℕ → Contact → List ℕ
folded_area known n block base w c = sent_area known n block base w c.sender c.hearer

-- column j of the row that begins at a place becomes 0
unfoldable pub cleared_column : Lanes → List ℕ → ℕ → ℕ → List ℕ
cleared_column lay w row j = slice_set w (row + j / lay.lanes) (without_lane lay.width (slice_index w (row + j / lay.lanes)) (j % lay.lanes))

-- the column that stands for v becomes 0 in v's own row, where one stands for it and v is not the source; col gives the column of
-- a station, the number of columns or more where none stands for it
unfoldable pub masked : Lanes → ℕ → ℕ → ℕ → (ℕ → ℕ) → List ℕ → ℕ → List ℕ
masked lay n block s col w v =
    cond (v == s) w
    (cond (nat_lt (col v) (block * lay.lanes)) (cleared_column lay w (row_at n block v) (col v)) w)

-- what waits for v in a part is taken into its settled entry, but where that has fewer hops
unfoldable pub taken_in : Lanes → ℕ → ℕ → ℕ → ℕ → (ℕ → ℕ) → List ℕ → ℕ → List ℕ
taken_in lay n block base s col w v =
    cond (nat_lt (slice_index w v) (slice_index w (base + v))) w
    (masked lay n block s col
    (absorbed n block w v (row_at n block v) (base + row_at n block v) (slice_index w (base + v)) (slice_index w (base + v + n)))
    v)

-- and nothing waits there any more
unfoldable pub settled_one : Lanes → ℕ → ℕ → ℕ → ℕ → (ℕ → ℕ) → List ℕ → ℕ → List ℕ
settled_one lay n block base s col w v =
    cond (nat_lt (slice_index w (base + v)) 65535)
    (slice_set (slice_set (taken_in lay n block base s col w v) (base + v) 65535) (base + v + n) 0)
    w

-- a work area, and whether settling stopped
pub record Sweep : Type 0 where
  pub over : Bool
  pub work : List ℕ

abbrev pub sweep_of : Bool → List ℕ → Sweep
sweep_of b w = record { over = b; work = w }

-- a count that does not fit a lane of b bits; 0 stands for one over 2^64 - 1
abbrev pub too_large : ℕ → ℕ → Bool
too_large b c = c == 0 || nat_le (2 ^ b) c

-- whether the count of d walks of l hops, taken in beside c of h hops, does not fit a lane; an entry with one lane holds any
unfoldable pub too_wide : Lanes → ℕ → ℕ → ℕ → ℕ → Bool
too_wide lay h c l d = cond (lay.lanes == 1) false (too_large lay.width (merged_count h c l d))

-- the second reason to stop at station v: what is taken in has a count that would not fit a lane
unfoldable pub widens_at : Lanes → ℕ → ℕ → List ℕ → ℕ → Bool
widens_at lay n base w v =
    not (nat_lt (slice_index w v) (slice_index w (base + v))) &&
    too_wide lay (slice_index w v) (slice_index w (v + n)) (slice_index w (base + v)) (slice_index w (base + v + n))

-- what waits is taken in, or nothing is changed
unfoldable pub taken_next : Lanes → ℕ → ℕ → ℕ → ℕ → (ℕ → ℕ) → List ℕ → ℕ → Sweep
taken_next lay n block base s col w v = cond (widens_at lay n base w v) (sweep_of true w) (sweep_of false (taken_in lay n block base s col w v))

-- whether settling stops at station v: what waits for it has a count over 2^64 - 1, or its settled count would not fit a lane
unfoldable pub stops_at : Lanes → ℕ → ℕ → List ℕ → ℕ → Bool
stops_at lay n base w v =
    area_overflows n w (base + v) ||
    (nat_lt (slice_index w (base + v)) 65535 &&
    too_wide lay (slice_index w v) (slice_index w (v + n)) (slice_index w (base + v)) (slice_index w (base + v + n)))

-- the same; where cause 9 is known not to hold, it stops at a lane alone
unfoldable pub halts_at : Bool → Lanes → ℕ → ℕ → List ℕ → ℕ → Bool
halts_at known lay n base w v =
    nat_lt (slice_index w (base + v)) 65535 &&
    ((not known && slice_index w (base + v + n) == 0) ||
    widens_at lay n base w v)

-- station v is settled, or nothing is changed where settling stops there
unfoldable pub settled_next : Bool → Lanes → ℕ → ℕ → ℕ → ℕ → (ℕ → ℕ) → List ℕ → ℕ → Sweep
settled_next known lay n block base s col w v =
    cond (halts_at known lay n base w v) (sweep_of true w) (sweep_of false (settled_one lay n block base s col w v))

-- the stations f i, f (i + 1) and so on are settled, k of them, up to the first at which settling stops
unfoldable pub settled_by : (ℕ → ℕ) → Bool → Lanes → ℕ → ℕ → ℕ → ℕ → (ℕ → ℕ) → List ℕ → ℕ → ℕ → Sweep
settled_by f known lay n block base s col w i zero = sweep_of false w
settled_by f known lay n block base s col w i (suc k) =
    cond (halts_at known lay n base w (f i)) (sweep_of true w)
    (settled_by f known lay n block base s col (settled_one lay n block base s col w (f i)) (i + 1) k)

-- the hearer of the record at i
abbrev pub hearer_at : List ℕ → ℕ → ℕ
hearer_at bs i = (contact_at bs i).hearer

-- the station that is settled as number i of a slot whose records stand from j on
unfoldable pub station_at : List ℕ → Bool → ℕ → ℕ → ℕ
station_at bs all j i = cond all i (hearer_at bs (j + i))

-- no walks in the part that begins at a place
unfoldable pub emptied : ℕ → List ℕ → ℕ → List ℕ
emptied n w at = filled (filled w at n 65535) (at + n) n 0

-- nor in k parts of a size, from a place on
unfoldable pub emptied_from : ℕ → ℕ → List ℕ → ℕ → ℕ → List ℕ
emptied_from n size w at zero = w
emptied_from n size w at (suc k) = emptied_from n size (emptied n w at) (at + size) k

-- no walks but the empty one, settled for the source, with a row whose entries have 1 in each lane; nothing waits in any of q parts
unfoldable pub begun_area : ℕ → ℕ → ℕ → List ℕ → ℕ → ℕ → List ℕ
begun_area n block q w s one =
    filled
    (slice_set (slice_set (emptied_from n (part_size n block) w 0 (1 + q)) s 0) (s + n) 1)
    (row_at n block s) block one

-- a part that begins at base lies behind what is settled, within the list
pub record PartFits (n block base : ℕ) (w : List ℕ) : Type 0 where
  pub some : 0 < n
  pub behind : part_size n block ≤ base
  pub fits : base + part_size n block ≤ length w

-- a work area for n stations, a block and q parts that wait fits its list
pub record Area (n block q : ℕ) (w : List ℕ) : Type 0 where
  pub some : 0 < n
  pub parts : 0 < q
  pub fits : (1 + q) * part_size n block ≤ length w

-- the record at j can be folded in: it is there, and its stations lie within the plan
pub record FoldableArea (bs : List ℕ) (n block base j : ℕ) (w : List ℕ) : Type 0 where
  pub inside : j * 6 + 5 < length bs
  pub sender_station : (contact_at bs j).sender < n
  pub hearer_station : (contact_at bs j).hearer < n
  pub part : PartFits n block base w

-- the hearer of the record at i can be settled: the record is there, and its hearer lies within the plan
pub record HearerFits (bs : List ℕ) (n i : ℕ) : Type 0 where
  pub inside : i * 6 + 5 < length bs
  pub hearer_station : (contact_at bs i).hearer < n

-- and those of the records from j to before e
abbrev pub HearersFit : List ℕ → ℕ → ℕ → ℕ → Type 0
HearersFit bs n j e = (i : ℕ) → j ≤ i → i < e → HearerFits bs n i

-- k stations from f i on are stations of the plan, with every hearer of the records from j to before e among them
pub record Chosen (bs : List ℕ) (n j e : ℕ) (f : ℕ → ℕ) (i k : ℕ) : Type 0 where
  pub inside : (m : ℕ) → i ≤ m → m < i + k → f m < n
  pub covers : (v : ℕ) → v < n → ((m : ℕ) → i ≤ m → m < i + k → v ≢ f m) → (m : ℕ) → j ≤ m → m < e → v ≢ hearer_at bs m

-- what settling a slot leaves, whose records are those from j to before e
pub record SlotSettled (bs : List ℕ) (known : Bool) (lay : Lanes) (n block base s : ℕ) (col : ℕ → ℕ) (j e : ℕ) (old : List ℕ) (r : Bool)
    (new : List ℕ) : Type 0 where
  pub stations : ℕ → ℕ
  pub from : ℕ
  pub many : ℕ
  pub chosen : Chosen bs n j e stations from many
  pub out : sweep_of r new ≡ settled_by stations known lay n block base s col old from many
