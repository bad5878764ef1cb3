-- Division with a rest. Definitions only.
-- Assumes nothing.
use Rattle.std.specs.Prelude.{ℕ, ◌+◌, ◌*◌, ◌<◌, ◌≡◌}

-- q is the whole part of x ÷ count, and r the rest
pub record Divided (count q r x : ℕ) : Type 0 where
  pub number : q * count + r ≡ x
  pub small : r < count
