-- The tallies lie within the named part of the work area, behind the pass's part.
-- Assumes nothing.
use Prim.Native.Nat.{ℕ, ◌+◌, ◌-◌, ◌*◌, ◌<◌, ◌≤◌}
use native.Mathlib.Omega.{arith}
use mathlib.Core.Path.{◌≡◌}
use native.Mathlib.Nat.{mul_assoc, mul_comm, mul-le-mul, add-mul}
use Rattle.temporal.specs.Plan.{Terms, Allowed}
use Rattle.temporal.specs.Outcome.{work_size}
use Rattle.forward.specs.Passed.{pass_size}
use Rattle.forward.proofs.SizeLaws.{some_column, columns_fit, most_lent}
use Rattle.tallies.specs.Tally.{block_of, tally_base}

-- where the tallies begin, and their 2 n entries, are within the 4 n (t + 1) entries of the work area
pub base_fits : (n t : ℕ) → tally_base n t + 2 * n ≤ work_size n t
unfolding tally_base
base_fits n t =
    let less : 4 * (t + 1) - 2 ≡ 4 * t + 2 = omega arith in
    let parts : (4 * (t + 1) - 2) * n ≡ 4 * t * n + 2 * n = rw less (add-mul (4 * t) 2 n) in
    let four = mul_assoc 4 t n in
    let same = mul_comm (t + 1) n in
    let one = add-mul t 1 n in
    omega arith

-- where they begin is a small number
pub base_small : (n t : ℕ) → n ≤ 256 → t ≤ 255 → (4 * (t + 1) - 2) * n ≤ 262144
base_small n t stations slots =
    let entries : 4 * (t + 1) - 2 ≤ 1024 = omega arith in
    omega (arith, mul-le-mul entries stations)

module _ (n t : ℕ) (terms : Terms) (d : ℕ) (units : Allowed terms) (slot : 0 < t) (most : t ≤ 255) (kept : d ≤ terms.keeping) where
  -- a block has at least one station
  pub block_some : 0 < n → 0 < block_of n t terms d
  unfolding block_of
  block_some some = some_column n t terms d (4 * (t + 1) - 2) (most_lent n t terms d units slot most kept) some

  -- and the pass with it lies before the tallies
  pub block_fits : pass_size n t terms d (block_of n t terms d) ≤ tally_base n t
  unfolding block_of tally_base
  block_fits = columns_fit n t terms d (4 * (t + 1) - 2) (most_lent n t terms d units slot most kept) _ (omega arith)
