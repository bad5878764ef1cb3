-- A table of changes of load, whose entries have a sign. Definitions only.
-- Assumes nothing.
use Rattle.std.specs.Prelude.{ℕ, ◌+◌, ◌^◌, ◌≤◌, ◌<◌, ◌≡◌, List, map, ℤ, pos, ◌-ℤ◌, length, get_or, replicate}
use Rattle.temporal.specs.Lists.{below}
use Rattle.temporal.specs.Outcome.{over}

-- what writing n loads from a place on asks: room for them, and that each is below 2^49
pub record Writable (loads : List ℕ) (at n : ℕ) (changes : List ℤ) : Type 0 where
  pub loads_room : at + n ≤ length loads
  pub changes_room : n ≤ length changes
  pub small : (v : ℕ) → v < n → get_or loads (at + v) 0 < 2 ^ 49

-- an entry that is a load below 2^49
pub record IsLoad (entry : ℤ) : Type 0 where
  pub load : ℕ
  pub same : entry ≡ pos load
  pub small : load < 2 ^ 49

-- what subtracting asks: the same, and that each of the first n entries is a load
pub record Subtractable (loads : List ℕ) (at n : ℕ) (changes : List ℤ) : Type 0 where
  pub writable : Writable loads at n changes
  pub entries : (v : ℕ) → v < n → IsLoad (get_or changes v (pos 0))

-- the load v places behind a place, as a number with sign
abbrev pub load_at : List ℕ → ℕ → ℕ → ℤ
load_at loads at v = pos (get_or loads (at + v) 0)

-- that load less the entry at v
abbrev pub difference_at : List ℕ → ℕ → List ℤ → ℕ → ℤ
difference_at loads at old v = load_at loads at v -ℤ get_or old v (pos 0)

-- the first n entries become the loads from a place on
unfoldable pub with_loads : List ℕ → ℕ → ℕ → List ℤ → List ℤ
with_loads loads at n old = over (map (load_at loads at) (below n)) old

-- each of the first n entries becomes the load at its place less the entry
unfoldable pub with_differences : List ℕ → ℕ → ℕ → List ℤ → List ℤ
with_differences loads at n old = over (map (difference_at loads at old) (below n)) old

-- the first n entries become 0
unfoldable pub with_zeros : ℕ → List ℤ → List ℤ
with_zeros n old = over (replicate n (pos 0)) old
