-- What the entries of the tallies hold on the way: partial sums, station by station. Definitions only.
-- Assumes nothing.
use Rattle.std.specs.Prelude.{ℕ, ◌+◌, ◌-◌, ◌*◌, ◌/◌, ◌^◌, ◌<◌, ◌≤◌, min, ◌≡◌, cond, ◌||◌, List, map, ◌⊎◌, ◌≢◌, eqb, length, get_or, set, drop}
use Rattle.temporal.specs.Lists.{below, sum}
use Rattle.temporal.specs.Plan.{Plan, Terms}
use Rattle.temporal.specs.Bytes.{plan_of}
use Rattle.temporal.specs.Cause.{plan_fault}
use Rattle.temporal.specs.Load.{Ends, is_pair_of, share}
use Rattle.pass.specs.Row.{part_size}
use Rattle.lanes.specs.Lane.{ones, lanes_of, width_of}
use Rattle.pass.specs.Column.{lanes_by, columns_in, column_at}
use Rattle.forward.specs.Passed.{PackedCounted}

-- a source and a destination
abbrev pub ends : ℕ → ℕ → Ends
ends s z = record { source = s; destination = z }

-- what the pair of s and z adds to the pairs of v
unfoldable pub pair_term : Plan → ℕ → ℕ → ℕ → ℕ
pair_term p v s z = cond (is_pair_of p v (ends s z)) 1 0

-- what the pair of s and z adds to the load of v
unfoldable pub load_term : Plan → ℕ → ℕ → ℕ → ℕ
load_term p v s z = cond (is_pair_of p v (ends s z)) (share p v (ends s z)) 0

-- the sum of f a z over the sources a below s and all n destinations z, and over source s and the destinations below k
unfoldable pub partly : (ℕ → ℕ → ℕ) → ℕ → ℕ → ℕ → ℕ
partly f n s k = sum (map (λ a. sum (map (f a) (below n))) (below s)) + sum (map (f s) (below k))

-- the entries of station v hold the sums over the sources below s, and over source s and the destinations below k
pub record TallyEntry (p : Plan) (n base s v k : ℕ) (work : List ℕ) : Type 0 where
  pub pairs_there : get_or work (base + v) 0 ≡ partly (pair_term p v) n s k
  pub load_there : get_or work (base + n + v) 0 ≡ partly (load_term p v) n s k

-- How a block stands in the rows of the pass: its number of stations, the entries of a row, and 2^split stations to an entry.
pub record Rows : Type 0 where
  pub stations : ℕ
  pub entries : ℕ
  pub split : ℕ

abbrev pub rows_of : ℕ → ℕ → ℕ → Rows
rows_of m block split = record { stations = m; entries = block; split = split }

-- While source s is worked on with the stations low, .., low + block - 1, the destinations below z are added to all of the
-- block, destination z to its first j stations; the stations before the block have all destinations, those after it none.
pub record State (p : Plan) (n base s low block z j : ℕ) (work : List ℕ) : Type 0 where
  pub done : (v : ℕ) → v < low → TallyEntry p n base s v n work
  pub ahead : (v : ℕ) → low ≤ v → v < low + j → TallyEntry p n base s v (z + 1) work
  pub here : (v : ℕ) → low + j ≤ v → v < low + block → TallyEntry p n base s v z work
  pub later : (v : ℕ) → low + block ≤ v → v < n → TallyEntry p n base s v 0 work

-- the tallies of n stations lie behind what the pass has settled, and within the list
pub record Room (n base block : ℕ) (work : List ℕ) : Type 0 where
  pub stations : n ≤ 256
  pub area : part_size n block ≤ base
  pub fits : base + 2 * n ≤ length work

-- a list that differs from another only before the end of the tallies
pub record Kept (n base : ℕ) (old work : List ℕ) : Type 0 where
  pub beyond : drop (base + 2 * n) work ≡ drop (base + 2 * n) old
  pub same_length : length work ≡ length old

-- the work area between two steps: what the pass left, the tallies so far, and an end that is as it was
pub record Working (bs : List ℕ) (n t : ℕ) (terms : Terms) (base s low : ℕ) (rows : Rows) (z j : ℕ) (old work : List ℕ) : Type 0 where
  pub accepted : plan_fault bs n t ≡ 0
  pub source : s < n
  pub inside : low + rows.stations ≤ n
  pub columns : rows.stations ≤ columns_in (lanes_by rows.split) rows.entries
  pub few : rows.split ≤ 3
  pub room : Room n base rows.entries work
  pub counted : PackedCounted bs n t terms s low rows.entries rows.split work
  pub state : State (plan_of bs n t terms) n base s low rows.stations z j work
  pub kept : Kept n base old work

-- the same for some plan and terms
pub record Workable (n base s low : ℕ) (rows : Rows) (z : ℕ) (work : List ℕ) : Type 0 where
  pub plan : List ℕ
  pub slots : ℕ
  pub terms : Terms
  pub working : Working plan n slots terms base s low rows z 0 work work

-- for every plan and terms, the tallies go on from destination z to destination y
pub record DestinationsAdded (n base s low : ℕ) (rows : Rows) (z y : ℕ) (old new : List ℕ) : Type 0 where
  pub working : (bs : List ℕ) (t : ℕ) (terms : Terms) → Working bs n t terms base s low rows z 0 old old
      → Working bs n t terms base s low rows y 0 old new

-- one pair of v, and its share, are added
unfoldable pub counted_in : ℕ → ℕ → List ℕ → ℕ → ℕ → List ℕ
counted_in n base w v x =
    set (set w (base + v) (get_or w (base + v) 0 + 1)) (base + n + v) (get_or w (base + n + v) 0 + x)

-- the same where some of the count shortest walks are not among those past v, and v is not z
unfoldable pub added : ℕ → ℕ → List ℕ → ℕ → ℕ → ℕ → ℕ → List ℕ
added n base w v z count past =
    cond (eqb v z || eqb (count - past) 0) w (counted_in n base w v (2 ^ 32 * (count - past) / count))

-- destination z is added to station low + j
unfoldable pub added_at : ℕ → ℕ → ℕ → ℕ → ℕ → ℕ → ℕ → List ℕ → List ℕ
added_at n base low block split z j w =
    added n base w (low + j) z (get_or w (n + z) 0) (column_at (lanes_by split) w (2 * n + z * block) j)

-- what it takes to add destination z to station low + j: room, no row over its count, and sums that stay small
pub record Addable (n base low block split z j : ℕ) (work : List ℕ) : Type 0 where
  pub room : Room n base block work
  pub station : low + j < n
  pub destination : z < n
  pub few : split ≤ 3
  pub in_block : j < columns_in (lanes_by split) block
  pub row : low + j ≢ z → column_at (lanes_by split) work (2 * n + z * block) j ≤ get_or work (n + z) 0
  pub few_pairs : get_or work (base + (low + j)) 0 < 2 ^ 32
  pub small_load : get_or work (base + n + (low + j)) 0 < 2 ^ 60

-- column j of the row that begins at a place lies within a list of so many entries
pub record ColumnWithin (row j split size : ℕ) : Type 0 where
  pub few : split ≤ 3
  pub small : j < 2 ^ 63
  pub whole : split ≡ 0 → row + j < size
  pub lanes : split ≢ 0 → row + j / 2 ^ split < size

-- the count of destination z is there, and fits its lane
pub record CountFits (n split z : ℕ) (work : List ℕ) : Type 0 where
  pub few : split ≤ 3
  pub there : n + z < length work
  pub fits : (2 ^ split ≡ 1) ⊎ (get_or work (n + z) 0 < 2 ^ (64 / 2 ^ split))

-- how many stations of the block the first e entries of a row hold
abbrev pub stations_in : Rows → ℕ → ℕ
stations_in rows e = min (e * 2 ^ rows.split) rows.stations

-- what adding destination z to the stations of entry e asks: those of the entries before it are added; all is the entry whose every lane holds
-- the count
pub record EntryWorkable (n base s low : ℕ) (rows : Rows) (z e all : ℕ) (work : List ℕ) : Type 0 where
  pub plan : List ℕ
  pub slots : ℕ
  pub terms : Terms
  pub working : Working plan n slots terms base s low rows z (stations_in rows e) work work
  pub destination : z < n
  pub apart : z ≢ s
  pub near : get_or work z 0 < 65535
  pub entry : e < rows.entries
  pub full : all ≡ get_or work (n + z) 0 * ones (width_of rows.split) (lanes_of rows.split)

-- for every plan and terms, the tallies of destination z go on from entry e to entry f
pub record EntriesAdded (n base s low : ℕ) (rows : Rows) (z e f : ℕ) (old new : List ℕ) : Type 0 where
  pub working : (bs : List ℕ) (t : ℕ) (terms : Terms) → Working bs n t terms base s low rows z (stations_in rows e) old old
      → Working bs n t terms base s low rows z (stations_in rows f) old new
  pub front : (i : ℕ) → i < base → get_or new i 0 ≡ get_or old i 0
