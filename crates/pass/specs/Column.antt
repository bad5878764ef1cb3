-- Which column of a row stands for a station, and how the columns stand in the entries of a row. Definitions only.
-- Assumes nothing.
use Rattle.std.specs.Prelude.{ℕ, ◌+◌, ◌-◌, ◌*◌, ◌/◌, ◌%◌, ◌^◌, cond, List, ◌==◌, nat_lt, slice_index}
use Rattle.lanes.specs.Lane.{lane}
use Rattle.pass.specs.declared.Columns.{Columns}
use Rattle.pass.specs.declared.Columns.TheVariants as columns

-- the column that stands for station v in a block from low on, column j for station low + j; the number none where v is below it
abbrev pub block_column : ℕ → ℕ → ℕ → ℕ
block_column low none v = cond (nat_lt v low) none (v - low)

-- The column that stands for station v, and the number none where no column does. From low split: that of a block. Members z: column 0 stands
-- for each station whose byte in the set is 1 but z; one past the end is no member.
unfoldable pub column_of : Columns → List ℕ → ℕ → ℕ → ℕ
column_of (columns.From low split) set none v = block_column low none v
column_of (columns.Members z) set none v = cond (v == z) none (cond ((slice_index set v) == 1) 0 none)

-- An entry of a row holds this many columns, each in a lane of so many bits.
pub record Lanes : Type 0 where
  pub lanes : ℕ
  pub width : ℕ

-- 2^split columns of 64 / 2^split bits
abbrev pub lanes_by : ℕ → Lanes
lanes_by split = record { lanes = 2 ^ split; width = 64 / 2 ^ split }

-- one column to an entry
abbrev pub whole : Lanes
whole = record { lanes = 1; width = 64 }

unfoldable pub split_of : Columns → ℕ
split_of (columns.From low split) = split
split_of (columns.Members z) = 0

-- how many columns a row of so many entries has
abbrev pub columns_in : Lanes → ℕ → ℕ
columns_in lay block = cond (lay.lanes == 1) block (block * lay.lanes)

-- what column j of the row that begins at a place holds
abbrev pub column_at : Lanes → List ℕ → ℕ → ℕ → ℕ
column_at lay w row j =
    cond (lay.lanes == 1) (slice_index w (row + j)) (lane lay.width (slice_index w (row + j / lay.lanes)) (j % lay.lanes))
