-- An entry: the fewest hops of some walks and how many have them. 65535 hops stand for no walk. A count of 0 beside fewer
-- hops stands for one over 2^64 - 1. Definitions only.
-- Assumes nothing.
use Rattle.std.specs.Prelude.{ℕ, ◌+◌, ◌-◌, Bool, cond, ◌&&◌, ◌||◌, ltb, eqb}

-- a count as an entry holds it: 0 where it is over 2^64 - 1
unfoldable pub stored : ℕ → ℕ
stored c = cond (ltb 18446744073709551615 c) 0 c

-- the sum of two counts; one over 2^64 - 1 stays so
unfoldable pub add_counts : ℕ → ℕ → ℕ
add_counts a b = cond (eqb a 0 || eqb b 0) 0 (cond (ltb (18446744073709551615 - a) b) 0 (a + b))

-- the count beside the fewer of two hops; both counts where the hops are equal
unfoldable pub merged_count : ℕ → ℕ → ℕ → ℕ → ℕ
merged_count h c l d = cond (ltb l h) d (cond (eqb l h) (add_counts c d) c)

-- whether h hops and a count say "too many", document 01's cause 9: a count over 2^64 - 1
unfoldable pub overflows : ℕ → ℕ → Bool
overflows h c = ltb h 65535 && eqb c 0
