-- What document 01's limits of stations and slots say of a table of appearances. Assumes nothing.
use Prim.Native.Nat.{ℕ, ◌+◌, ◌*◌, ◌≤◌}
use native.Mathlib.Omega.{arith}
use native.Mathlib.Nat.{mul-le-mul}

-- the places within the limits are few
pub limited_places : (n t : ℕ) → n ≤ 256 → t ≤ 255 → n * (t + 1) ≤ 65536
limited_places n t stations slots = mul-le-mul {n₂ = 256} {m₂ = 256} stations (omega arith)
