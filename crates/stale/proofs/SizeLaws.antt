-- How many columns of a row fit where readings go stale. Assumes nothing.
use Rattle.std.proofs.Common.{◌≡◌, ℕ, suc, ◌+◌, ◌-◌, ◌*◌, ◌/◌, ◌<◌, ◌≤◌, min, sym, ap, ◌∙◌, mul-le-mul_right, mod-lt, mul_assoc, suc-mul, mul_comm, add-mul, mul-le-mul_left, div-add-mod', arith}
use native.Mathlib.Decide.{dec_le}
use mathlib.Core.Logic.{by_cases}
use Rattle.pass.specs.Row.{part_size}
use Rattle.stale.specs.Size.{window_size, window_columns}

-- what k times m does not exceed has at least k whole parts of m
pub parts_within : (k m e : ℕ) → 0 < m → k * m ≤ e → k ≤ e / m
parts_within k m e some fits =
    by_cases (dec_le k (e / m)) (λ h. h)
    (λ h.
    let whole = div-add-mod' e m in
    let rest = mod-lt e some in
    let few = mul-le-mul_right {m = suc (e / m)} {n = k} m (omega arith) in
    let more = suc-mul (e / m) m in
    absurd (omega arith))

-- no more than there are stations
pub columns_within : (n e d : ℕ) → window_columns n e d ≤ n
unfolding window_columns
columns_within n e d = omega arith

-- the number that code finds
pub columns_by : (n e d r : ℕ) → r ≡ min n ((e - (d + 1)) / (3 + d) - 2) → r ≡ window_columns n e d
unfolding window_columns
columns_by n e d r is = is

module _ (n e d : ℕ) (enough : 4 * d + 10 ≤ e) where
  -- there are parts for a column
  pub three_parts : 3 ≤ (e - (d + 1)) / (3 + d)
  three_parts = parts_within 3 (3 + d) (e - (d + 1)) (omega arith) (omega arith)

  -- at least one column
  pub some_column : 0 < n → 0 < window_columns n e d
  unfolding window_columns
  some_column some = omega (arith, three_parts)

  -- so many columns, or fewer, fit
  pub columns_fit : (block : ℕ) → block ≤ window_columns n e d → window_size n d block ≤ e * n
  unfolding window_columns
  columns_fit block few =
      let parts = three_parts in
      let whole = div-add-mod' (e - (d + 1)) (3 + d) in
      let most : (3 + d) * (2 + block) ≤ (3 + d) * ((e - (d + 1)) / (3 + d)) = mul-le-mul_left (3 + d) (omega arith) in
      let turned = mul_comm (3 + d) ((e - (d + 1)) / (3 + d)) in
      let within : (3 + d) * (2 + block) + (d + 1) ≤ e = omega arith in
      let all = mul-le-mul_right {m = (3 + d) * (2 + block) + (d + 1)} {n = e} n within in
      let apart = add-mul ((3 + d) * (2 + block)) (d + 1) n in
      let same : (3 + d) * part_size n block ≡ (3 + d) * (2 + block) * n =
      ap (◌*◌ (3 + d)) sized ∙ sym (mul_assoc (3 + d) (2 + block) n) in
      omega arith
    where
      sized : part_size n block ≡ (2 + block) * n
      sized = let a = add-mul 2 block n in let b = mul_comm n block in omega arith

-- fewer columns take no more
pub window_less : (n d block more : ℕ) → block ≤ more → window_size n d block ≤ window_size n d more
window_less n d block more h =
    let size : part_size n block ≤ part_size n more = omega (arith, mul-le-mul_left n h) in
    let parts = mul-le-mul_left (3 + d) size in
    omega arith

-- the totals are the first part
pub window_first_law : (n d block : ℕ) → part_size n block ≤ window_size n d block
window_first_law n d block =
    let one = mul-le-mul_right {m = 1} {n = 3 + d} (part_size n block) (omega arith) in
    omega arith
