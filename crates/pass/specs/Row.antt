-- Rows of the work area, stretches of neighbouring entries: one written from itself and another, entry by entry.
-- Definitions only.
-- Assumes nothing.
use Rattle.std.specs.Prelude.{◌≡◌, ℕ, zero, suc, ◌+◌, ◌*◌, ◌%◌, ◌^◌, ◌≤◌, cond, List, length, ◌==◌, nat_lt, slice_index, slice_set}

-- k entries from one place on, each written with f of itself and of the entry as far behind another place
unfoldable pub combined : (ℕ → ℕ → ℕ) → List ℕ → ℕ → ℕ → ℕ → List ℕ
combined f w to from zero = w
combined f w to from (suc k) = combined f (slice_set w to (f (slice_index w to) (slice_index w from))) (to + 1) (from + 1) k

-- a relation of two numbers and a result gives g of them
abbrev pub Computes : (ℕ → ℕ → ℕ → Type 0) → (ℕ → ℕ → ℕ) → Type 0
Computes post g = (a b r : ℕ) → post a b r → r ≡ g a b

-- the second takes the place of the first
unfoldable pub second : ℕ → ℕ → ℕ
second a b = b

-- the sum, modulo 2^64
unfoldable pub wrapped : ℕ → ℕ → ℕ
wrapped a b = (a + b) % 2 ^ 64

-- of a beside h hops and b beside l hops: that of fewer hops; the sum modulo 2^64 where they are equal
unfoldable pub merged_row : ℕ → ℕ → ℕ → ℕ → ℕ
merged_row h l a b = cond (nat_lt l h) b (cond (l == h) ((a + b) % 2 ^ 64) a)

-- The work area has parts of equal size: n hops, n counts, then a row of block entries for each of the n stations.
abbrev pub part_size : ℕ → ℕ → ℕ
part_size n block = 2 * n + n * block

-- where the row of station v begins in a part
abbrev pub row_at : ℕ → ℕ → ℕ → ℕ
row_at n block v = 2 * n + v * block

-- Part 0 has what is settled. What waits of slot u is in one of q parts behind it, in turn: where that part begins.
unfoldable pub part_at : ℕ → ℕ → ℕ → ℕ → ℕ
part_at n block q u = (1 + u % q) * part_size n block

-- two stretches of k entries lie within a list
pub record RowsFit (w : List ℕ) (to from k : ℕ) : Type 0 where
  pub to_fits : to + k ≤ length w
  pub from_fits : from + k ≤ length w
