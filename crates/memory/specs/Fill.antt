-- One number written to a stretch of neighbouring entries. Definitions only.
-- Assumes nothing.
use Rattle.std.specs.Prelude.{ℕ, zero, suc, ◌+◌, List, set}

-- one number to k entries, from a place on
unfoldable pub filled : List ℕ → ℕ → ℕ → ℕ → List ℕ
filled w to zero x = w
filled w to (suc k) x = filled (set w to x) (to + 1) k x
