-- The bits of a share are exact, differ for different shares, and lie below the infinity's.
-- Assumes nothing.
use Rattle.std.proofs.Common.{◌≡◌, ℕ, zero, suc, ◌+◌, ◌-◌, ◌*◌, ◌/◌, ◌%◌, ◌^◌, ◌<◌, ◌≤◌, Bool, cond, eqb, sym, refl, ap, ◌∙◌, subst, mul-le-mul_right, mod-eq_of_lt, mul_assoc, arith, pow_pos, pow-add, shl_lt}
use native.Mathlib.Nat.{eq_of_mul-eq-mul_right}
use lib.Dec.{eqb-suc-zero}
use lib.Pow.{high, low}
use lib.Ieee.{size}
use lib.Ieee.Digits.{size-lt, size_reaches, size-le}
use Rattle.temporal.specs.Drawing.{fraction, exponent, significand, multiple, ExactShare, share_bits}

-- a number has a digit where it is not 0
pub size_pos : (x z : ℕ) → 0 < x → x < 2 ^ z → 0 < z
size_pos x zero h l = omega arith
size_pos x (suc z) h l = omega arith

-- z digits of x, moved up to 53: the leading one is at 2^52
pub record Moved (x z : ℕ) : Type 0 where
  pub least : 0 < z
  pub most : z ≤ 53
  pub reaches : 2 ^ 52 ≤ x * 2 ^ (53 - z)
  pub within : x * 2 ^ (53 - z) < 2 ^ 53

pub moved : (x : ℕ) → 0 < x → x < 2 ^ 53 → Moved x (size x)
moved x h l =
    let z = size x in
    let some : 0 < z = size_pos x z h (size-lt x) in
    let few : z ≤ 53 = size-le x 53 l in
    let up : z - 1 + (53 - z) ≡ 52 = omega arith in
    let all : z + (53 - z) ≡ 53 = omega arith in
    record {
      least = some;
      most = few;
      reaches =
          subst (λ (n : ℕ). n ≤ x * 2 ^ (53 - z)) (sym (pow-add 2 (z - 1) (53 - z)) ∙ ap (λ (n : ℕ). 2 ^ n) up)
          (mul-le-mul_right (2 ^ (53 - z)) (size_reaches x (z - 1) (omega arith)));
      within = subst (λ (n : ℕ). x * 2 ^ (53 - z) < 2 ^ n) all (shl_lt z (53 - z) (size-lt x));
    }

-- ---- the fields

pub share_fields : (x : ℕ) → 0 < x → share_bits x ≡ (990 + size x) * 2 ^ 52 + (x * 2 ^ (53 - size x) - 2 ^ 52)
unfolding share_bits
share_fields zero h = omega arith
share_fields (suc x) h = refl

module _ (x : ℕ) (h : 0 < x) (l : x < 2 ^ 53) where
  digits_low : x * 2 ^ (53 - size x) - 2 ^ 52 < 2 ^ 52
  digits_low = let a = (moved x h l).reaches in let b = (moved x h l).within in omega arith

  pub share_fraction : fraction (share_bits x) ≡ x * 2 ^ (53 - size x) - 2 ^ 52
  unfolding fraction
  share_fraction = ap (λ (b : ℕ). b % 2 ^ 52) (share_fields x h) ∙ low (990 + size x) 52 digits_low

  pub share_exponent : exponent (share_bits x) ≡ 990 + size x
  unfolding exponent
  share_exponent =
      let a = (moved x h l).most in
      ap (λ (b : ℕ). b / 2 ^ 52 % 2 ^ 11) (share_fields x h) ∙
      ap (λ (b : ℕ). b % 2 ^ 11) (high (990 + size x) 52 digits_low) ∙
      mod-eq_of_lt (omega arith)

  -- the fraction with its leading digit
  pub share_leading : 2 ^ 52 + fraction (share_bits x) ≡ x * 2 ^ (53 - size x)
  share_leading = let a = (moved x h l).reaches in let e = share_fraction in omega arith

  -- x / 2^32 exactly: the value of the double is (2^52 + fraction) * 2^exponent / 2^1075
  pub share_exact : (2 ^ 52 + fraction (share_bits x)) * 2 ^ exponent (share_bits x) ≡ x * 2 ^ 1043
  share_exact =
      let a = (moved x h l).most in
      let e : 53 - size x + (990 + size x) ≡ 1043 = omega arith in
      ap (λ (n : ℕ). n * 2 ^ exponent (share_bits x)) share_leading ∙
      ap (λ (n : ℕ). x * 2 ^ (53 - size x) * 2 ^ n) share_exponent ∙
      mul_assoc x (2 ^ (53 - size x)) (2 ^ (990 + size x)) ∙
      ap (λ (n : ℕ). x * n) (sym (pow-add 2 (53 - size x) (990 + size x)) ∙ ap (λ (n : ℕ). 2 ^ n) e)

-- ---- the value

with_leading : (e a b : ℕ) → 0 < e → cond (eqb e 0) a b ≡ b
with_leading zero a b h = omega arith
with_leading (suc e) a b h = ap (λ (t : Bool). cond t a b) (eqb-suc-zero e)

share_multiple : (x : ℕ) → 0 < x → x < 2 ^ 53 → multiple (share_bits x) ≡ x * 2 ^ 1042
unfolding multiple significand
share_multiple x h l =
    let a = (moved x h l).most in
    let b = share_bits x in
    let z = size x in
    let e : 53 - z + (990 + z - 1) ≡ 1042 = omega arith in
    let some : 0 < exponent b = subst (λ (n : ℕ). 0 < n) (sym (share_exponent x h l)) (omega arith) in
    ap (λ (n : ℕ). n * 2 ^ (exponent b - 1)) (with_leading (exponent b) (fraction b) (2 ^ 52 + fraction b) some ∙ share_leading x h l) ∙
    ap (λ (n : ℕ). x * 2 ^ (53 - z) * 2 ^ (n - 1)) (share_exponent x h l) ∙
    mul_assoc x (2 ^ (53 - z)) (2 ^ (990 + z - 1)) ∙
    ap (λ (n : ℕ). x * n) (sym (pow-add 2 (53 - z) (990 + z - 1)) ∙ ap (λ (n : ℕ). 2 ^ n) e)

-- 1043 * 2^52 and less stays below the infinity's pattern
pub share_below : (x : ℕ) → x < 2 ^ 53 → share_bits x < 2047 * 2 ^ 52
unfolding share_bits
share_below zero l = omega arith
share_below (suc x) l =
    let m = (moved (suc x) (omega arith) l).most in
    let w = digits_low (suc x) (omega arith) l in
    omega arith

pub share_is_exact : (x : ℕ) → x < 2 ^ 53 → ExactShare (share_bits x) x
unfolding multiple significand exponent fraction share_bits
share_is_exact zero l = record { finite = omega arith; positive = omega arith; value = refl }
share_is_exact (suc x) l =
    let m = (moved (suc x) (omega arith) l).most in
    let e = share_exponent (suc x) (omega arith) l in
    let b = share_below (suc x) l in
    record { finite = omega arith; positive = omega arith; value = share_multiple (suc x) (omega arith) l }

-- bits are exact of one number alone
pub exact_unique : (b x y : ℕ) → ExactShare b x → ExactShare b y → x ≡ y
exact_unique b x y p q = eq_of_mul-eq-mul_right (2 ^ 1042) (pow_pos 1042) x y (sym p.value ∙ q.value)

pub share_injective : (x y : ℕ) → x < 2 ^ 53 → y < 2 ^ 53 → share_bits x ≡ share_bits y → x ≡ y
share_injective x y h l e =
    exact_unique (share_bits y) x y (subst (λ (b : ℕ). ExactShare b x) e (share_is_exact x h)) (share_is_exact y l)

-- they fit a word
pub share_fits : (x : ℕ) → x < 2 ^ 53 → share_bits x < 2 ^ 64
share_fits x l = let b = share_below x l in omega arith
