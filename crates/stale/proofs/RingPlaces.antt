-- Places of the work area where readings go stale: its parts, the marks of the cells and the heads lie within it and apart from each
-- other, and so do the cells of two numbers. Assumes nothing.
use Rattle.std.proofs.Common.{◌≡◌, ℕ, suc, ◌+◌, ◌*◌, ◌/◌, ◌%◌, ◌<◌, ◌≤◌, ◌≢◌, ◌⊎◌, List, length, sym, ap, ◌∙◌, inl, inr, ⊎_elim, mul-le-mul_right, mod-lt, suc-mul, mul_comm, div-lt_iff_lt-mul, mul-pos, div-add-mod', arith}
use native.Mathlib.Decide.{dec_le, ℕ_discrete}
use lib.Arith.{digits_lt, digits_div, digits_mod}
use mathlib.Core.Logic.{by_cases}
use Rattle.pass.specs.Row.{part_size}
use Rattle.pass.specs.Sweep.{Area}
use Rattle.pass.proofs.PlaceLaws.{place_apart}
use Rattle.stale.specs.Size.{window_size}
use Rattle.stale.specs.Window.{ring_at, mark_at, TwoParts, WindowArea}

-- two parts do not meet
abbrev pub Apart : ℕ → ℕ → ℕ → ℕ → Type 0
Apart n block a b = (a + part_size n block ≤ b) ⊎ (b + part_size n block ≤ a)

module _ (n block : ℕ) where
  -- the part of a cell ends where that of a later one begins, or before
  pub ring_before : (i k : ℕ) → i < k → ring_at n block i + part_size n block ≤ ring_at n block k
  unfolding ring_at
  ring_before i k h =
      let m = mul-le-mul_right {m = suc (2 + i)} {n = 2 + k} (part_size n block) (omega arith) in
      omega (arith, m, suc-mul (2 + i) (part_size n block))

  -- the totals and what is heard lie before
  pub ring_first : (i : ℕ) → part_size n block + part_size n block ≤ ring_at n block i
  unfolding ring_at
  ring_first i = let m = mul-le-mul_right {m = 2} {n = 2 + i} (part_size n block) (omega arith) in omega arith

  pub ring_apart : (i k : ℕ) → i ≢ k → Apart n block (ring_at n block i) (ring_at n block k)
  ring_apart i k d =
      by_cases (dec_le (suc i) k) (λ h. inl (ring_before i k h)) (λ h. inr (ring_before k i (omega arith)))

  -- the marks and the heads lie behind the parts
  pub parts_end : (d i : ℕ) → i ≤ d → ring_at n block i + part_size n block ≤ (3 + d) * part_size n block
  unfolding ring_at
  parts_end d i h =
      let m = mul-le-mul_right {m = suc (2 + i)} {n = 3 + d} (part_size n block) (omega arith) in
      omega (arith, m, suc-mul (2 + i) (part_size n block))

  pub mark_behind : (d i v : ℕ) → (3 + d) * part_size n block ≤ mark_at n block d i v
  unfolding mark_at
  mark_behind d i v = omega arith

  pub mark_inside : (d i v : ℕ) → i ≤ d → v < n → mark_at n block d i v < window_size n d block
  unfolding mark_at
  mark_inside d i v h hv =
      let one : i < d + 1 = omega arith in
      let inside = digits_lt one hv in
      omega arith

  pub mark_at_law : (d i v : ℕ) → mark_at n block d i 0 + v ≡ mark_at n block d i v
  unfolding mark_at
  mark_at_law d i v = omega arith

  -- two of them differ
  pub mark_apart : (d i k v z : ℕ) → v < n → z < n → (i ≢ k) ⊎ (v ≢ z) → mark_at n block d i v ≢ mark_at n block d k z
  unfolding mark_at
  mark_apart d i k v z hv hz differ same =
      let digits : i * n + v ≡ k * n + z = omega arith in
      let first = sym (digits_div i hv) ∙ ap (λ x. x / n) digits ∙ digits_div k hz in
      let second = sym (digits_mod i hv) ∙ ap (λ x. x % n) digits ∙ digits_mod k hz in
      ⊎_elim (λ (d : i ≢ k). d first) (λ (d : v ≢ z). d second) differ

-- ---- the cells of numbers

module _ (n d : ℕ) (some : 0 < n) where
  pub cells_some : 0 < d → 0 < n * d
  cells_some deep = mul-pos some deep

  pub number_inside : (k : ℕ) → 0 < d → k % (n * d) / n < d
  number_inside k deep =
      let low = mod-lt k (cells_some deep) in
      (div-lt_iff_lt-mul some).1 (omega (arith, mul_comm n d))

  pub number_place_law : (k : ℕ) → k % (n * d) % n < n
  number_place_law k = mod-lt (k % (n * d)) some

  -- two numbers that are as near to each other as there are cells have different cells
  pub number_apart : (k l : ℕ) → k < l → l < k + n * d
      → (k % (n * d) / n ≢ l % (n * d) / n) ⊎ (k % (n * d) % n ≢ l % (n * d) % n)
  number_apart k l low high =
      by_cases (ℕ_discrete (k % (n * d) / n) (l % (n * d) / n))
      (λ same. inr (λ place.
      place_apart (n * d) k l low high
      (omega (arith, div-add-mod' (k % (n * d)) n, div-add-mod' (l % (n * d)) n, ap (λ i. i * n) same, place))))
      inl

-- ---- places as code computes them

module _ (n block d i size : ℕ) (is : size ≡ part_size n block) (within : i ≤ d) (small : window_size n d block < 18446744073709551616) where
  pub ring_is : (2 + i) * size ≡ ring_at n block i
  unfolding ring_at
  ring_is = rw is

  module _ (v : ℕ) (inside : v < n) where
    pub mark_is : (3 + d) * size + i * n + v ≡ mark_at n block d i v
    unfolding mark_at
    mark_is = rw is

-- ---- a work area

pub area_same : {n block d : ℕ} {w w' : List ℕ} → WindowArea n block d w → length w' ≡ length w → WindowArea n block d w'
area_same a e = let f = a.fits in record { some = a.some; deep = a.deep; fits = omega arith }

module _ {n block d : ℕ} {w : List ℕ} (a : WindowArea n block d w) where
  pub ring_fits : (i : ℕ) → i ≤ d → ring_at n block i + part_size n block ≤ length w
  ring_fits i h = let f = a.fits in let e = parts_end n block d i h in omega arith

  pub mark_fits : (i v : ℕ) → i ≤ d → v < n → mark_at n block d i v < length w
  mark_fits i v h hv = let f = a.fits in let e = mark_inside n block d i v h hv in omega arith

  -- what is heard lies within it
  pub heard_fits : part_size n block + part_size n block ≤ length w
  heard_fits = let f = ring_fits 0 (omega arith) in let e = ring_first n block 0 in omega arith

  -- the totals and what is heard are a work area of the pass where nothing goes stale
  pub first_parts : Area n block 1 w
  first_parts =
      let f = heard_fits in
      record { some = a.some; parts = omega arith; fits = let m = suc-mul 1 (part_size n block) in omega arith }

  -- a part of the ring, or the windows, and what is heard
  pub ring_heard : (i : ℕ) → i ≤ d → TwoParts n block (ring_at n block i) (part_size n block) w
  ring_heard i h = let f = heard_fits in record { some = a.some; to_fits = ring_fits i h; from_fits = f }

  pub heard_windows : TwoParts n block (part_size n block) (ring_at n block d) w
  heard_windows = let f = heard_fits in record { some = a.some; to_fits = f; from_fits = ring_fits d (omega arith) }

  pub totals_heard : TwoParts n block 0 (part_size n block) w
  totals_heard = let f = heard_fits in record { some = a.some; to_fits = omega arith; from_fits = f }
