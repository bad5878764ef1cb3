-- The sum of two counts, the count of a merge and the test for too many, from comparisons of numbers. Assumes nothing.
use Prim.Native.Nat.{ℕ, ◌+◌, ◌-◌, ◌<◌, ◌≤◌}
use native.Mathlib.Omega.{arith}
use native.Mathlib.Decide.{dec_le}
use mathlib.Core.Path.{◌≡◌, sym, ◌∙◌}
use mathlib.Core.Bool.{false}
use mathlib.Core.Logic.{◌≢◌, by_cases}
use borrow.Author.Tests.{lt-ltb, le-ltb, eq-eqb, ne_eqb}
use lib.Dec.{eqb}
use Rattle.entries.specs.Entry.{stored, add_counts, merged_count, overflows}

-- ---- the sum

module _ (a b : ℕ) where
  -- a first count over 2^64 - 1 stays so
  pub add_left_over : a ≡ 0 → add_counts a b ≡ 0
  unfolding add_counts
  add_left_over h = rw (eq-eqb a 0 h)

  -- so does a second
  pub add_right_over : a ≢ 0 → b ≡ 0 → add_counts a b ≡ 0
  unfolding add_counts
  add_right_over some h = rw (ne_eqb a 0 some, eq-eqb b 0 h)

  -- a sum over 2^64 - 1 is 0
  pub add_over : a ≢ 0 → b ≢ 0 → 18446744073709551615 - a < b → add_counts a b ≡ 0
  unfolding add_counts
  add_over some other h = rw (ne_eqb a 0 some, ne_eqb b 0 other, lt-ltb (18446744073709551615 - a) b h)

  -- any other sum is the sum
  pub add_sum : a ≢ 0 → b ≢ 0 → b ≤ 18446744073709551615 - a → add_counts a b ≡ a + b
  unfolding add_counts
  add_sum some other h = rw (ne_eqb a 0 some, ne_eqb b 0 other, le-ltb (18446744073709551615 - a) b h)

-- ---- a merge

module _ (h c l d : ℕ) where
  -- of fewer hops the count is the new one
  pub count_fewer : l < h → merged_count h c l d ≡ d
  unfolding merged_count
  count_fewer less = rw (lt-ltb l h less)

  -- as many hops add the counts
  pub count_equal : l ≡ h → merged_count h c l d ≡ add_counts c d
  unfolding merged_count
  count_equal same = rw (le-ltb l h (omega arith), eq-eqb l h same)

  -- of more hops the count stays
  pub count_more : h < l → merged_count h c l d ≡ c
  unfolding merged_count
  count_more more = rw (le-ltb l h (omega arith), ne_eqb l h (omega arith))

-- ---- too many

module _ (h c : ℕ) where
  -- where there are walks, a count of 0 is one over 2^64 - 1
  pub overflows_some : h < 65535 → overflows h c ≡ eqb c 0
  unfolding overflows
  overflows_some few = rw (lt-ltb h 65535 few)

  -- where there are none, it is not
  pub overflows_none : 65535 ≤ h → overflows h c ≡ false
  unfolding overflows
  overflows_none none = rw (le-ltb h 65535 none)

-- ---- counts as an entry holds them

-- a count that is not too large stands as it is
pub stored_small : (c : ℕ) → c ≤ 18446744073709551615 → stored c ≡ c
unfolding stored
stored_small c h = rw (le-ltb 18446744073709551615 c h)

-- one that is too large stands as 0
pub stored_large : (c : ℕ) → 18446744073709551615 < c → stored c ≡ 0
unfolding stored
stored_large c h = rw (lt-ltb 18446744073709551615 c h)

-- counts that are there add as entries
pub stored_add : (x y : ℕ) → 0 < x → 0 < y → add_counts (stored x) (stored y) ≡ stored (x + y)
stored_add x y hx hy =
    by_cases (dec_le x 18446744073709551615)
    (λ sx. by_cases (dec_le y 18446744073709551615)
    (λ sy. rw (stored_small x sx, stored_small y sy)
    (by_cases (dec_le (x + y) 18446744073709551615)
    (λ s. add_sum x y (omega arith) (omega arith) (omega arith) ∙ sym (stored_small (x + y) s))
    (λ s. add_over x y (omega arith) (omega arith) (omega arith) ∙ sym (stored_large (x + y) (omega arith)))))
    (λ ly. rw (stored_small x sx, stored_large (x + y) (omega arith))
    (add_right_over x (stored y) (omega arith) (stored_large y (omega arith)))))
    (λ lx. add_left_over (stored x) (stored y) (stored_large x (omega arith))
    ∙ sym (stored_large (x + y) (omega arith)))

-- and so do two that are not
pub stored_none : (x y : ℕ) → x ≡ 0 → y ≡ 0 → add_counts (stored x) (stored y) ≡ stored (x + y)
stored_none x y ex ey =
    add_left_over (stored x) (stored y) (stored_small x (omega arith) ∙ ex)
    ∙ sym (stored_small (x + y) (omega arith) ∙ omega arith)
