-- Laws of decimal digits: how many a number has, their codes, and that they read back as the number.
-- Assumes nothing.
use Prim.Native.Nat.{ℕ, zero, suc, ◌+◌, ◌-◌, ◌*◌, ◌/◌, ◌%◌, ◌^◌, ◌<◌, ◌≤◌}
use native.Mathlib.Omega.{arith}
use native.Mathlib.Nat.{
  pow-succ',
  pow-le-pow_right,
  one-le-pow,
  mod-lt,
  mod-eq_of_lt,
  le_of_suc-le-suc,
  not-suc-le-zero,
  le-div_iff_mul-le,
  div-lt_iff_lt-mul,
}
use native.Mathlib.Decide.{dec_le}
use mathlib.Core.Path.{◌≡◌, refl, ap, ◌∙◌}
use mathlib.Core.List.{[], ◌∷◌}
use mathlib.Core.Logic.{by_cases}
use borrow.Author.Tests.{le-leb, lt-leb}
use lib.Arith.{mod-mul}
use lib.Dec.{lit<}
use lib.ListN.{length, get_or}
use Rattle.text.specs.Decimal.{code, codes, powers_up_to, digit_count, decimal, read_on, value}

-- ---- powers of ten

power_rises : {i j : ℕ} → i ≤ j → 10 ^ i ≤ 10 ^ j
power_rises h = pow-le-pow_right (lit< tt) h

power_positive : (k : ℕ) → 0 < 10 ^ k
power_positive k = one-le-pow k 10 (lit< tt)

-- ---- how many digits

module _ (x : ℕ) where
  upto_met : (k : ℕ) → 10 ^ suc k ≤ x → powers_up_to x (suc k) ≡ powers_up_to x k + 1
  unfolding powers_up_to
  upto_met k h = rw (le-leb (10 ^ suc k) x h)

  upto_missed : (k : ℕ) → x < 10 ^ suc k → powers_up_to x (suc k) ≡ powers_up_to x k
  unfolding powers_up_to
  upto_missed k h = rw (lt-leb (10 ^ suc k) x h) (omega arith)

  upto_none : powers_up_to x 0 ≡ 0
  unfolding powers_up_to
  upto_none = refl

  -- of the powers 10^1 .. 10^m at most m are at most x
  upto_most : (m : ℕ) → powers_up_to x m ≤ m
  upto_most zero = omega (arith, upto_none)
  upto_most (suc m) =
      by_cases (dec_le (10 ^ suc m) x) (λ met. omega (arith, upto_met m met, upto_most m))
      (λ missed. omega (arith, upto_missed m (omega arith), upto_most m))

  -- with 10^k at most x, k of them are
  upto_long : (m k : ℕ) → k ≤ m → 10 ^ k ≤ x → k ≤ powers_up_to x m
  upto_long zero k few h = omega arith
  upto_long (suc m) k few h =
      by_cases (dec_le (10 ^ suc m) x)
      (λ met.
      let below : 10 ^ m ≤ x = omega (arith, power_rises {i = m} {j = suc m} (omega arith)) in
      omega (arith, upto_met m met, upto_long m m (omega arith) below))
      (λ missed.
      let less : k ≤ m =
      by_cases (dec_le k m) (λ q. q) (λ more. absurd (omega (arith, power_rises {i = suc m} {j = k} (omega arith)))) in
      omega (arith, upto_missed m (omega arith), upto_long m k less h))

  -- with x below 10^(k + 1), at most k of them are
  upto_short : (m k : ℕ) → x < 10 ^ suc k → powers_up_to x m ≤ k
  upto_short zero k h = omega (arith, upto_none)
  upto_short (suc m) k h =
      by_cases (dec_le (10 ^ suc m) x)
      (λ met.
      by_cases (dec_le (suc m) k) (λ q. omega (arith, upto_most (suc m)))
      (λ more. absurd (omega (arith, power_rises {i = suc k} {j = suc m} (omega arith)))))
      (λ missed. omega (arith, upto_missed m (omega arith), upto_short m k h))

  pub digits_positive : 0 < digit_count x
  unfolding digit_count
  digits_positive = omega arith

  pub digits_most : digit_count x ≤ 20
  unfolding digit_count
  digits_most = omega (arith, upto_most 19)

  -- a number from 10^k on has more than k digits
  pub digits_long : (k : ℕ) → k < 20 → 10 ^ k ≤ x → k < digit_count x
  unfolding digit_count
  digits_long k few h = omega (arith, upto_long 19 k (omega arith) h)

  -- a number below 10^k has at most k digits
  pub digits_short : (k : ℕ) → 1 ≤ k → x < 10 ^ k → digit_count x ≤ k
  unfolding digit_count
  digits_short zero some h = omega arith
  digits_short (suc k) some h = omega (arith, upto_short 19 k h)

  -- a number below 10^20 is below 10^(its digits)
  pub below_power : x < 10 ^ 20 → x < 10 ^ digit_count x
  below_power h =
      by_cases (dec_le (10 ^ digit_count x) x)
      (λ over.
      by_cases (dec_le 20 (digit_count x)) (λ q. absurd (omega (arith, power_rises {i = 20} {j = digit_count x} q)))
      (λ few. absurd (omega (arith, digits_long (digit_count x) (omega arith) over))))
      (λ under. omega arith)

  -- one digit less does not hold a positive number
  pub power_below : 1 ≤ x → 10 ^ (digit_count x - 1) ≤ x
  power_below h =
      by_cases (dec_le (digit_count x) 1)
      (λ one. let e : digit_count x - 1 ≡ 0 = omega arith in rw e h)
      (λ several.
      by_cases (dec_le (10 ^ (digit_count x - 1)) x) (λ q. q)
      (λ over. absurd (omega (arith, digits_short (digit_count x - 1) (omega arith) (omega arith)))))

-- ---- the codes

-- as many codes as digits
pub length_codes : (x k : ℕ) → length (codes x k) ≡ k
unfolding codes
length_codes x zero = refl
length_codes x (suc k) = ap suc (length_codes x k)

-- the first of several codes, and the others
pub codes_first : (x k : ℕ) → 0 < k → codes x k ≡ code x (k - 1) ∷ codes x (k - 1)
unfolding codes
codes_first x zero h = absurd (not-suc-le-zero h)
codes_first x (suc k) h = let e : k ≡ suc k - 1 = omega arith in ap (λ j. code x j ∷ codes x j) e

code_within : (x k : ℕ) → (48 ≤ code x k) × (code x k ≤ 57)
unfolding code
code_within x k = let h : x / 10 ^ k % 10 < 10 = mod-lt (x / 10 ^ k) (lit< tt) in omega arith

codes_within : (x k i : ℕ) → i < k → (48 ≤ get_or (codes x k) i 0) × (get_or (codes x k) i 0 ≤ 57)
unfolding codes
codes_within x zero i h = absurd (not-suc-le-zero h)
codes_within x (suc k) zero h = code_within x k
codes_within x (suc k) (suc i) h = codes_within x k i (le_of_suc-le-suc h)

-- one step of reading digits, in numbers
horner : (a d p r : ℕ) → (a * 10 + d) * p + r ≡ a * (10 * p) + (d * p + r)
horner a d p r = omega arith

-- the last k digits, read behind those of a number
read_codes : (x k a : ℕ) → read_on a (codes x k) ≡ a * 10 ^ k + x % 10 ^ k
unfolding codes code read_on
read_codes x zero a = omega arith
read_codes x (suc k) a =
    let digit : code x k - 48 ≡ x / 10 ^ k % 10 = omega arith in
    read_codes x k (a * 10 + (code x k - 48)) ∙
    rw (digit, pow-succ' 10 k, mod-mul x {m = 10} {c = 10 ^ k} (lit< tt) (power_positive k))
    (horner a (x / 10 ^ k % 10) (10 ^ k) (x % 10 ^ k))

-- the first of k + 1 digits is not 0 where k digits do not hold the number
code_leading : (x k : ℕ) → 10 ^ k ≤ x → x < 10 ^ suc k → 48 < code x k
unfolding code
code_leading x k low high =
    let one : 1 ≤ x / 10 ^ k = (le-div_iff_mul-le (power_positive k)).1 (omega arith) in
    let ten : x / 10 ^ k < 10 = (div-lt_iff_lt-mul (power_positive k)).1 (omega arith) in
    rw (mod-eq_of_lt ten) (omega arith)

-- ---- numbers in decimal

module _ (x : ℕ) where
  pub length_decimal : length (decimal x) ≡ digit_count x
  unfolding decimal
  length_decimal = length_codes x (digit_count x)

  -- a number below 10^k, k at least 1, has at most k digits
  pub decimal_short : (k : ℕ) → 1 ≤ k → x < 10 ^ k → length (decimal x) ≤ k
  decimal_short k some h = omega (arith, length_decimal, digits_short x k some h)

  -- no more than 20 digits, whatever the number
  pub decimal_most : length (decimal x) ≤ 20
  decimal_most = omega (arith, length_decimal, digits_most x)

  -- each code is that of a digit
  pub decimal_within :
      (i : ℕ) → i < length (decimal x) → (48 ≤ get_or (decimal x) i 0) × (get_or (decimal x) i 0 ≤ 57)
  unfolding decimal
  decimal_within i h = codes_within x (digit_count x) i (omega (arith, length_codes x (digit_count x)))

  -- the digits read back as the number
  pub value_decimal : x < 10 ^ 20 → value (decimal x) ≡ x
  unfolding decimal value
  value_decimal h = read_codes x (digit_count x) 0 ∙ omega (arith, mod-eq_of_lt (below_power x h))

  -- a number of several digits does not begin with the digit 0
  pub no_leading_zero : 10 ≤ x → x < 10 ^ 20 → 48 < get_or (decimal x) 0 0
  unfolding decimal
  no_leading_zero several h =
      let e : suc (digit_count x - 1) ≡ digit_count x = omega (arith, digits_positive x) in
      rw (codes_first x (digit_count x) (digits_positive x))
      (code_leading x (digit_count x - 1) (power_below x (omega arith)) (rw e (below_power x h)))

-- 0 has one digit
pub decimal_zero : decimal 0 ≡ 48 ∷ []
unfolding decimal digit_count powers_up_to codes code
decimal_zero = refl

-- the largest number of 64 bits has 20
pub decimal_largest :
    decimal 18446744073709551615 ≡
    49 ∷ 56 ∷ 52 ∷ 52 ∷ 54 ∷ 55 ∷ 52 ∷ 52 ∷ 48 ∷ 55 ∷ 51 ∷ 55 ∷ 48 ∷ 57 ∷ 53 ∷ 53 ∷ 49 ∷ 54 ∷ 49 ∷ 53 ∷ []
unfolding decimal digit_count powers_up_to codes code
decimal_largest = refl
