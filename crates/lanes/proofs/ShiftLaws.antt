-- A lane by shifts of 64-bit words. Assumes nothing.
use Prim.Native.Nat.{ℕ, ◌+◌, ◌-◌, ◌*◌, ◌/◌, ◌%◌, ◌^◌, ◌<◌, ◌≤◌}
use mathlib.Core.Path.{◌≡◌, sym, ap, ◌∙◌}
use native.Mathlib.Omega.{arith}
use lib.Pow.{field, shr-shr, shl-shr, shl_exact}
use Rattle.std.specs.Prelude.{bit_and}
use Rattle.std.proofs.lemmas.Nat.{and_mask}
use Rattle.lanes.specs.Lane.{lane, without_lane, lanes_of}
use Rattle.lanes.proofs.LaneLaws.{lane_part, lane_below, lanes_shift}

-- shifted left until the lane is the highest, then right until it is the lowest
pub lane_shifts : (x w l : ℕ) → w * l + w ≤ 64 → x * 2 ^ (64 - w - w * l) % 2 ^ 64 / 2 ^ (64 - w) ≡ lane w x l
unfolding lane
lane_shifts x w l inside =
    let a = 64 - w - w * l in
    let total : 64 ≡ w + (64 - w) = omega arith in
    let below : 64 - w ≡ (64 - w - w * l) + w * l = omega arith in
    ap (λ n. x * 2 ^ a % 2 ^ n / 2 ^ (64 - w)) total
    ∙ field (x * 2 ^ a) w (64 - w)
    ∙ ap (λ n. n % 2 ^ w)
    (ap (λ n. x * 2 ^ a / 2 ^ n) below ∙ sym (shr-shr (x * 2 ^ a) a (w * l)) ∙ ap (λ n. n / 2 ^ (w * l)) (shl-shr x a))

module _ (x w l : ℕ) {r : ℕ} (inside : w * l + w ≤ 64) (read : r ≡ lane w x l) where
  -- a lane shifted to its place loses nothing
  shifted : r * 2 ^ (w * l) % 2 ^ 64 ≡ lane w x l * 2 ^ (w * l)
  shifted = rw read (shl_exact w (w * l) 64 (lane_below w x l) (omega arith))

  -- there it is part of the entry
  pub shifted_part : r * 2 ^ (w * l) % 2 ^ 64 ≤ x
  shifted_part = rw shifted (lane_part w x l)

  -- and taken from it, it is cleared
  pub shifted_without : x - r * 2 ^ (w * l) % 2 ^ 64 ≡ without_lane w x l
  unfolding without_lane
  shifted_without = ap (λ n. x - n) shifted

-- a number shifted left by up to 3 places loses nothing
pub shifted_up : (x s : ℕ) → s ≤ 3 → x < 2 ^ 60 → x * 2 ^ s % 2 ^ 64 ≡ x * 2 ^ s
shifted_up x s few small = shl_exact 60 s 64 small (omega arith)

-- the lowest s places of a number
pub masked : (x s : ℕ) → s ≤ 3 → bit_and x (1 * 2 ^ s % 2 ^ 64 - 1) ≡ x % 2 ^ s
unfolding lanes_of
masked x s few = ap (λ n. bit_and x (n - 1)) (lanes_shift s few) ∙ and_mask x s
