-- A text that is made of numbered pieces. Definitions only.
-- Assumes nothing.
use Rattle.std.specs.Prelude.{ℕ, ◌-◌}
use mathlib.Core.List.{List, flat_map}
use Rattle.temporal.specs.Lists.{from}

-- the pieces from number i on to before number n, one behind the other
unfoldable pub pieces : (ℕ → List ℕ) → ℕ → ℕ → List ℕ
pieces f i n = flat_map f (from i (n - i))
