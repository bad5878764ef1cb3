-- Splits of several sources in one word. Assumes nothing.
use Rattle.std.proofs.Common.{◌≡◌, ℕ, zero, suc, ◌+◌, ◌-◌, ◌*◌, ◌/◌, ◌%◌, ◌^◌, ◌<◌, ◌≤◌, Bool, true, false, cond, ltb, ◌≢◌, List, get_or, sym, refl, ap, ◌∙◌, arith, pow_mono, pow-add, ltb-true}
use Rattle.temporal.specs.Plan.{Terms}
use Rattle.temporal.specs.Bytes.{plan_of}
use Rattle.temporal.specs.Cause.{is_too_many}
use Rattle.widths.specs.Key.{split_for, splits_from}
use Rattle.widths.specs.Found.{Narrow}

-- 0 says nothing of any source
pub narrow_none : (bs : List ℕ) (n t : ℕ) (terms : Terms) (s k : ℕ) → Narrow bs n t terms s k 0
unfolding Narrow
narrow_none bs n t terms s zero = omega arith
narrow_none bs n t terms s (suc k) = (λ some. absurd (some refl), narrow_none bs n t terms (s + 1) k)

-- ---- the splits of bounds

-- a split has two bits
pub split_small : (b : ℕ) → split_for b < 4
unfolding split_for
split_small b = go (ltb b 67108864) (ltb b 17179869184) (ltb b 1125899906842624)
  where
    go : (x y z : Bool) → cond x 3 (cond y 2 (cond z 1 0)) < 4
    go true y z = omega arith
    go false true z = omega arith
    go false false true = omega arith
    go false false false = omega arith

pub split_is_small : (r b : ℕ) → r ≡ split_for b → r < 4
split_is_small r b e = omega (arith, e, split_small b)

-- and is not 0 only where the bound is below 2^32
split_some : (b : ℕ) → split_for b ≢ 0 → b < 1125899906842624
unfolding split_for
split_some b = go (ltb b 67108864) (ltb b 17179869184) (ltb b 1125899906842624) refl refl refl
  where
    go : (x y z : Bool) → ltb b 67108864 ≡ x → ltb b 17179869184 ≡ y → ltb b 1125899906842624 ≡ z → ◌≢◌ {A = ℕ} (cond x 3 (cond y 2 (cond z 1 0))) 0
        → b < 1125899906842624
    go true y z ex ey ez some = omega (arith, ltb-true b 67108864 ex)
    go false true z ex ey ez some = omega (arith, ltb-true b 17179869184 ey)
    go false false true ex ey ez some = ltb-true b 1125899906842624 ez
    go false false false ex ey ez some = absurd (some refl)

-- those of k bounds have 2 k bits
pub splits_small : (k : ℕ) (w : List ℕ) (at : ℕ) → splits_from w at k < 2 ^ (2 * k)
unfolding splits_from
splits_small zero w at = omega arith
splits_small (suc k) w at =
    let rest = splits_small k w (at + 1) in
    let own = split_small (get_or w at 0) in
    let more : 2 * suc k ≡ 2 * k + 2 = omega arith in
    let power : 2 ^ (2 * suc k) ≡ 2 ^ (2 * k) * 4 = ap (λ e. 2 ^ e) more ∙ pow-add 2 (2 * k) 2 in
    omega (arith, power)

-- so one more fits 64 bits where there are fewer than 32
pub splits_fit : (k : ℕ) (w : List ℕ) (at : ℕ) → k ≤ 31 → 4 * splits_from w at k + 4 ≤ 18446744073709551616
splits_fit k w at h =
    let small = splits_small k w at in
    let most : 2 ^ (2 * k) ≤ 2 ^ 62 = pow_mono {i = 2 * k} {j = 62} (omega arith) in
    omega (arith, small, most)

-- ---- the loop that finds them

-- at first there is none
pub splits_none : (w : List ℕ) (at many : ℕ) → 0 ≡ splits_from w (at + many) (many - many)
unfolding splits_from
splits_none w at many = let none : many - many ≡ 0 = omega arith in sym (rw none)

-- there is room for one more
pub splits_room : (w : List ℕ) (at many i r : ℕ) → 0 < i → i ≤ many → many ≤ 32 → r ≡ splits_from w (at + i) (many - i)
    → 4 * r + 4 ≤ 18446744073709551616
splits_room w at many i r some within few is = omega (arith, is, splits_fit (many - i) w (at + i) (omega arith))

-- one more
pub splits_more : (w : List ℕ) (at many i r : ℕ) → 0 < i → i ≤ many → r ≡ splits_from w (at + i) (many - i)
    → split_for (get_or w (at + (i - 1)) 0) + 4 * r ≡ splits_from w (at + (i - 1)) (many - (i - 1))
unfolding splits_from
splits_more w at many i r some within is =
    let more : many - (i - 1) ≡ suc (many - i) = omega arith in
    let next : at + (i - 1) + 1 ≡ at + i = omega arith in
    rw more (rw next (ap (λ x. split_for (get_or w (at + (i - 1)) 0) + 4 * x) is))

-- the splits of bounds that are small only where a source has no count over 2^64 - 1
pub narrow_splits : (bs : List ℕ) (n t : ℕ) (terms : Terms) (k s : ℕ) (w : List ℕ) (at : ℕ)
    → ((c : ℕ) → c < k → get_or w (at + c) 0 < 1125899906842624 → is_too_many (plan_of bs n t terms) (s + c) ≡ false)
    → Narrow bs n t terms s k (splits_from w at k)
unfolding Narrow splits_from
narrow_splits bs n t terms zero s w at few = omega arith
narrow_splits bs n t terms (suc k) s w at few =
    let own = split_small (get_or w at 0) in
    let rest = splits_from w (at + 1) k in
    let low : (split_for (get_or w at 0) + 4 * rest) % 4 ≡ split_for (get_or w at 0) = omega arith in
    let high : (split_for (get_or w at 0) + 4 * rest) / 4 ≡ rest = omega arith in (
      λ some. first (split_some (get_or w at 0) (λ z. some (low ∙ z))),
      rw high (narrow_splits bs n t terms k (s + 1) w (at + 1) (λ c h small. later c h small)),
    )
  where
    first : get_or w at 0 < 1125899906842624 → is_too_many (plan_of bs n t terms) s ≡ false
    first small =
        let here : at + 0 ≡ at = omega arith in
        let source : s + 0 ≡ s = omega arith in
        rw source at (few 0 (omega arith) (rw here small))

    later : (c : ℕ) → c < k → get_or w (at + 1 + c) 0 < 1125899906842624 → is_too_many (plan_of bs n t terms) (s + 1 + c) ≡ false
    later c h small =
        let here : at + suc c ≡ at + 1 + c = omega arith in
        let source : s + suc c ≡ s + 1 + c = omega arith in
        rw source at (few (suc c) (omega arith) (rw here small))
