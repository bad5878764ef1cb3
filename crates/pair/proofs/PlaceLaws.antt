-- Places in the work area. Assumes nothing.
use Prim.Native.Nat.{ℕ, ◌+◌, ◌*◌, ◌<◌, ◌≤◌}
use native.Mathlib.Omega.{arith}
use lib.Arith.{digits_lt}
use Rattle.pass.specs.Row.{part_size}

-- the entry of a row lies within the pass's part of the work area
pub row_inside :
    (n z block j size : ℕ) → z < n → j < block → part_size n block ≤ size → 2 * n + z * block + j < size
row_inside n z block j size h k fits =
    let spot = digits_lt h k in
    omega arith
