-- Keys, hops and a count in one entry, and the rows of keys in the work area: a row of one key for each source stands for a station, settled or
-- waiting. Definitions only.
-- Assumes nothing.
use Rattle.std.specs.Prelude.{◌≡◌, ℕ, zero, suc, ◌+◌, ◌*◌, ◌/◌, ◌%◌, ◌^◌, ◌<◌, ◌≤◌, min, cond, List, length, ◌==◌, bit_or, nat_lt, slice_index, slice_set}
use Rattle.temporal.specs.Plan.{Contact}
use Rattle.temporal.specs.Bytes.{contact_at}
use Rattle.memory.specs.Fill.{filled}
use Rattle.pass.specs.Row.{combined}
use Rattle.pass.specs.Sweep.{Chosen}

-- h hops and a count c below 2^46
unfoldable pub key_of : ℕ → ℕ → ℕ
key_of h c = h * 70368744177664 + c

-- of two keys that of fewer hops; with as many hops both counts
unfoldable pub merged_key : ℕ → ℕ → ℕ
merged_key a b = cond (a / 70368744177664 == b / 70368744177664) ((a + b % 70368744177664) % 2 ^ 64) (min a b)

-- the same with the second over one hop more
unfoldable pub sent_key : ℕ → ℕ → ℕ
sent_key a b = merged_key a ((b + 70368744177664) % 2 ^ 64)

-- a bound that is not below the count of a key, both in the upper 46 bits
unfoldable pub widened : ℕ → ℕ → ℕ
widened a b = bit_or a (b * 2 ^ 18 % 2 ^ 64)

-- station v is settled: what waits for it, in the part whose rows begin at row base, is taken in, its counts widen the bounds, and nothing
-- waits there any more
unfoldable pub settled_keys : ℕ → ℕ → ℕ → List ℕ → ℕ → List ℕ
settled_keys many base bounds w v =
    filled
    (combined widened (combined merged_key w (v * many) ((base + v) * many) many) (bounds * many) (v * many) many)
    ((base + v) * many) many 4611615649683210240

-- the stations f i, f (i + 1) and so on, k of them
unfoldable pub settled_keys_by : (ℕ → ℕ) → ℕ → ℕ → ℕ → List ℕ → ℕ → ℕ → List ℕ
settled_keys_by f many base bounds w i zero = w
settled_keys_by f many base bounds w i (suc k) = settled_keys_by f many base bounds (settled_keys many base bounds w (f i)) (i + 1) k

-- a record is folded in: what is settled for its sender goes on to what waits for its hearer
unfoldable pub folded_keys : ℕ → ℕ → List ℕ → Contact → List ℕ
folded_keys many base w c = combined sent_key w ((base + c.hearer) * many) (c.sender * many) many

-- the empty walks of k sources from s on, each in its own column from column c on
unfoldable pub started_keys : ℕ → List ℕ → ℕ → ℕ → ℕ → List ℕ
started_keys many w s c zero = w
started_keys many w s c (suc k) = started_keys many (slice_set w (s * many + c) 1) (s + 1) (c + 1) k

-- no walks but those, and bounds of 0
unfoldable pub begun_keys : ℕ → ℕ → List ℕ → ℕ → List ℕ
begun_keys many bounds w first =
    started_keys many (filled (filled w 0 (bounds * many) 4611615649683210240) (bounds * many) many 0) first 0 many

-- the split of rows whose counts have a bound: 3 below 2^8, 2 below 2^16, 1 below 2^32, else 0
unfoldable pub split_for : ℕ → ℕ
split_for b = cond (nat_lt b 67108864) 3 (cond (nat_lt b 17179869184) 2 (cond (nat_lt b 1125899906842624) 1 0))

-- those of k bounds from a place on, two bits each, the first lowest
unfoldable pub splits_from : List ℕ → ℕ → ℕ → ℕ
splits_from w at zero = 0
splits_from w at (suc k) = split_for (slice_index w at) + 4 * splits_from w (at + 1) k

-- the rows of many sources from first on lie within a list
pub record SourcesFit (first many : ℕ) (w : List ℕ) : Type 0 where
  pub rows : first + many ≤ 256
  pub fits : (first + many) * many ≤ length w

-- so do the rows up to that of bounds, with those of the sources among them
pub record BeginFits (many bounds first : ℕ) (w : List ℕ) : Type 0 where
  pub rows : first + many ≤ 256
  pub before : first + many ≤ bounds
  pub fits : (bounds + 1) * many ≤ length w

-- the part whose rows begin at row base lies behind what is settled, before the row of bounds, within the list
pub record KeysFit (n many base bounds : ℕ) (w : List ℕ) : Type 0 where
  pub some : 0 < n
  pub behind : n ≤ base
  pub before : base + n ≤ bounds
  pub small : bounds ≤ 65536
  pub fits : (bounds + 1) * many ≤ length w

-- the record at j can be folded in
pub record FoldableKeys (bs : List ℕ) (n many base bounds j : ℕ) (w : List ℕ) : Type 0 where
  pub inside : j * 6 + 5 < length bs
  pub sender_station : (contact_at bs j).sender < n
  pub hearer_station : (contact_at bs j).hearer < n
  pub part : KeysFit n many base bounds w

-- what settling a slot leaves, whose records are those from j to before e
pub record SlotKeys (bs : List ℕ) (n many base bounds j e : ℕ) (old new : List ℕ) : Type 0 where
  pub stations : ℕ → ℕ
  pub from : ℕ
  pub count : ℕ
  pub chosen : Chosen bs n j e stations from count
  pub out : new ≡ settled_keys_by stations many base bounds old from count
