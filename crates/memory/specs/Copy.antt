-- Entries of a list copied to the beginning of a table. Definitions only.
-- Assumes nothing.
use Rattle.std.specs.Prelude.{ℕ, ◌+◌, ◌<◌, ◌≤◌, ◌≡◌, List, length, get_or, drop}

-- the first k entries of a table are those of a list from a place on, and no other entry is touched
pub record Copied (source : List ℕ) (from k : ℕ) (old new : List ℕ) : Type 0 where
  pub here : (i : ℕ) → i < k → get_or new i 0 ≡ get_or source (from + i) 0
  pub beyond : drop k new ≡ drop k old
  pub same_length : length new ≡ length old

-- what copying asks
pub record Copyable (source : List ℕ) (from k : ℕ) (table : List ℕ) : Type 0 where
  pub source_room : from + k ≤ length source
  pub table_room : k ≤ length table
