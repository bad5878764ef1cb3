-- The numbers that stand in bytes. Definitions only.
-- Assumes nothing.
use Rattle.std.specs.Prelude.{ℕ, zero, suc, ◌+◌, ◌*◌, ◌^◌, List, slice_index}

-- the number in k bytes from a place on, high byte first; a byte past the end counts as 0
unfoldable pub number_at : List ℕ → ℕ → ℕ → ℕ
number_at bytes at zero = 0
number_at bytes at (suc k) = slice_index bytes at * 256 ^ k + number_at bytes (suc at) k
