-- The work area of the pass where readings go stale, with a ring of d parts, and how many columns fit one. Definitions only.
-- Assumes nothing.
use Rattle.std.specs.Prelude.{ℕ, ◌+◌, ◌-◌, ◌*◌, ◌/◌, min}
use Rattle.pass.specs.Row.{part_size}

-- how many entries of the work area the pass uses: 3 + d parts, d marks for each station and its head
abbrev pub window_size : ℕ → ℕ → ℕ → ℕ
window_size n d block = (3 + d) * part_size n block + (d + 1) * n

-- the most columns for which that is at most e entries for each of n stations, and no more than there are stations; e is at least 4 d + 10
unfoldable pub window_columns : ℕ → ℕ → ℕ → ℕ
window_columns n e d = min n ((e - (d + 1)) / (3 + d) - 2)
