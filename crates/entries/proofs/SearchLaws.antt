-- A search over the first numbers for one that passes a test. Assumes nothing.
use Prim.Native.Nat.{ℕ, suc, ◌+◌, ◌-◌, ◌<◌, ◌≤◌}
use native.Mathlib.Omega.{arith}
use native.Mathlib.Numerals.{add-one}
use mathlib.Core.Path.{◌≡◌, refl, sym}
use mathlib.Core.Bool.{Bool, true, false}
use Rattle.std.specs.Prelude.{IsTrue, ◌↔◌}
use Rattle.temporal.specs.Lists.{from, below, any}
use Rattle.lists.proofs.ListLaws.{any_true, any_false, mem_below, not_both, not_true_false}

module _ (f : ℕ → Bool) (j k : ℕ) where
  -- one number that passes decides
  pub any_found : j < k → f j ≡ true → any f (from j (k - j)) ≡ true
  unfolding any from
  any_found h e = let more : k - j ≡ suc (k - (j + 1)) = omega arith in rw (more, e)

  -- one that does not is passed over
  pub any_pass : j < k → f j ≡ false → any f (from j (k - j)) ≡ any f (from (j + 1) (k - (j + 1)))
  unfolding any from
  any_pass h e = let more : k - j ≡ suc (k - (j + 1)) = omega arith in rw (more, e, add-one j)

  -- past the last none passes
  pub any_end : k ≤ j → any f (from j (k - j)) ≡ false
  unfolding any from
  any_end h = let none : k - j ≡ 0 = omega arith in rw none

-- all numbers below k are those from 0 on
pub any_start : (f : ℕ → Bool) (k : ℕ) → any f (below k) ≡ any f (from 0 (k - 0))
unfolding below
any_start f k = let same : k - 0 ≡ k = omega arith in rw same

-- an answer that is true exactly where some number below k passes
pub any_by : (f : ℕ → Bool) (k : ℕ) (b : Bool) → (IsTrue b ↔ ((j : ℕ) × (j < k) × IsTrue (f j))) → b ≡ any f (below k)
any_by f k true h =
    let some = h.0 refl in
    sym ((any_true f (below k)).1 (some.0, (mem_below k).1 some.1, some.2))
any_by f k false h =
    sym ((any_false f (below k)).1 (λ j m.
    not_true_false (f j) (λ e. absurd (not_both (h.1 (j, (mem_below k).0 m, e)) refl))))
