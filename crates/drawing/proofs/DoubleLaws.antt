-- The doubles that have a share's bits: a whole number below 2^53 over 2^32 has them, nothing is rounded, and the way back gives the
-- number.
-- Assumes nothing.
use Rattle.std.proofs.Common.{◌≡◌, ℕ, zero, suc, ◌+◌, ◌-◌, ◌*◌, ◌/◌, ◌%◌, ◌^◌, ◌<◌, ◌≤◌, Bool, true, false, cond, not, T, eqb, ltb, leb, ℤ, pos, sym, refl, ap, ◌∙◌, subst, lt_of_lt_of_le, lt_of_le_of_lt, le_of_lt, lt_irrefl, mul-le-mul_right, mod-eq_of_lt, mul_assoc, mul-lt-mul_of_pos_right, mul-pos, lt_of_not-le, mul-one, mul_right_comm, mul-div_cancel, arith, le→leb, eqb→eq, lt→ltb, pow_pos, pow_mono, pow-add, shl_lt}
use Prim.Native.Nat.{compare}
use lib.Dec.{not_T}
use lib.Arith.{lt→nleb, le→nltb}
use lib.Pow.{shl-shr}
use lib.Ieee.{Float, nan, inf, fin, binary64, up, down, unlike, size, nearest, odd, units, round}
use lib.Ieee.{mul, div, lt, below, of_int, in_float, to_unsigned, is_nan, of_fields, of_bits, nan_bits, to_bits}
use lib.Ieee.Digits.{size-lt, size_reaches, size-le}
use lib.Ieee.Fits.{down_pos, round_is, round-fits}
use lib.Ieee.Exact.{HasValue, round_exact}
use lib.Ieee.Scale.{round_same}
use lib.Ieee.Back.{round_whole, unsigned_back}
use lib.Ieee.Bits.{is_false, cond_no, of_bits-to_bits, nan_bits_above}
use Rattle.temporal.specs.Drawing.{share_bits}
use Rattle.drawing.proofs.ShareLaws.{size_pos, moved, share_fields}

-- ---- the bits of a value

power_order : (i p : ℕ) → 2 ^ i < 2 ^ p → i < p
power_order i p h = lt_of_not-le (λ (g : p ≤ i). lt_irrefl (2 ^ i) (lt_of_lt_of_le h (pow_mono g)))

size_shifted : (x k : ℕ) → 0 < x → size (x * 2 ^ k) ≡ size x + k
size_shifted x k h =
    let z = size x in
    let some : 0 < z = size_pos x z h (size-lt x) in
    let reached : 2 ^ (z - 1 + k) ≤ x * 2 ^ k =
    subst (λ (n : ℕ). n ≤ x * 2 ^ k) (sym (pow-add 2 (z - 1) k)) (mul-le-mul_right (2 ^ k) (size_reaches x (z - 1) (omega arith)))
    in
    let most : size (x * 2 ^ k) ≤ z + k = size-le (x * 2 ^ k) (z + k) (shl_lt z k (size-lt x)) in
    let least : z - 1 + k < size (x * 2 ^ k) = power_order (z - 1 + k) (size (x * 2 ^ k)) (lt_of_le_of_lt reached (size-lt (x * 2 ^ k))) in
    omega arith

-- the bits of n of the least positive doubles
abbrev multiple_bits : ℕ → ℕ
multiple_bits n = (size n - 53) * 2 ^ 52 + n / 2 ^ (size n - 53)

bits_of_multiple : (m : ℕ) (e : ℤ) (n : ℕ) → m * up e * 2 ^ 1074 / down e ≡ n → to_bits binary64 (fin false m e) ≡ multiple_bits n
unfolding to_bits
bits_of_multiple m e n h =
    ap (λ (k : ℕ). 0 + (size k - 53) * 2 ^ 52 + k / 2 ^ (size k - 53)) h ∙ plain ((size n - 53) * 2 ^ 52) (n / 2 ^ (size n - 53))
  where
    plain : (a b : ℕ) → 0 + a + b ≡ a + b
    plain a b = omega arith

share_multiple_bits : (x : ℕ) → x < 2 ^ 53 → multiple_bits (x * 2 ^ 1042) ≡ share_bits x
unfolding size share_bits
share_multiple_bits zero l = refl
share_multiple_bits (suc x) l = above (suc x) (omega arith) l
  where
    sums : (z y : ℕ) → 2 ^ 52 ≤ y → (z + 989) * 2 ^ 52 + y ≡ (990 + z) * 2 ^ 52 + (y - 2 ^ 52)
    sums z y h = omega arith

    above : (x : ℕ) → 0 < x → x < 2 ^ 53 → multiple_bits (x * 2 ^ 1042) ≡ share_bits x
    above x h l =
        let z = size x in
        let n = x * 2 ^ 1042 in
        let few : z ≤ 53 = (moved x h l).most in
        let k : size n - 53 ≡ z + 989 = ap (λ (s : ℕ). s - 53) (size_shifted x 1042 h) ∙ omega arith in
        let e : 53 - z + (z + 989) ≡ 1042 = omega arith in
        let whole : n ≡ x * 2 ^ (53 - z) * 2 ^ (z + 989) =
        ap (λ (s : ℕ). x * 2 ^ s) (sym e) ∙ ap (λ (s : ℕ). x * s) (pow-add 2 (53 - z) (z + 989)) ∙
        sym (mul_assoc x (2 ^ (53 - z)) (2 ^ (z + 989)))
        in
        ap (λ (s : ℕ). s * 2 ^ 52 + n / 2 ^ s) k ∙
        ap (λ (s : ℕ). (z + 989) * 2 ^ 52 + s) (ap (λ (s : ℕ). s / 2 ^ (z + 989)) whole ∙ shl-shr (x * 2 ^ (53 - z)) (z + 989)) ∙
        sums z (x * 2 ^ (53 - z)) (moved x h l).reaches ∙ sym (share_fields x h)

-- what is x / 2^32 has the share's bits
value_bits : (y : Float) (x : ℕ) → x < 2 ^ 53 → HasValue y false x (2 ^ 32) → to_bits binary64 y ≡ share_bits x
value_bits nan x l v = absurd v
value_bits (inf s) x l v = absurd v
value_bits (fin s m e) x l v =
    ap (λ (t : Bool). to_bits binary64 (fin t m e)) v.0 ∙
    bits_of_multiple m e (x * 2 ^ 1042)
    (ap (λ (n : ℕ). n / down e)
    (sym (mul_assoc (m * up e) (2 ^ 32) (2 ^ 1042)) ∙ ap (λ (n : ℕ). n * 2 ^ 1042) v.1 ∙ mul_right_comm x (down e) (2 ^ 1042)) ∙
    mul-div_cancel (x * 2 ^ 1042) (down_pos e)) ∙
    share_multiple_bits x l

-- ---- x / 2^32 is a double

-- 2^32 and 2^64
abbrev pub scale : Float
scale = fin false 1 (pos 32)

abbrev pub word_end : Float
word_end = fin false 1 (pos 64)

share_value : (x : ℕ) → x < 2 ^ 53 → HasValue (round binary64 false x (2 ^ 32)) false x (2 ^ 32)
share_value x l =
    round_exact binary64 false x (2 ^ 32) x 1042 (pow_pos 32) l
    (lt_of_lt_of_le (shl_lt 53 1042 l) (pow_mono {i = 1095} {j = 2098} (omega arith)))
    (sym (mul_assoc x (2 ^ 1042) (2 ^ 32)))

-- a double that is x, divided by 2^32, is what x / 2^32 rounds to
divided : (y : Float) (x : ℕ) → HasValue y false x 1 → div binary64 y scale ≡ round binary64 false x (2 ^ 32)
unfolding div
divided nan x v = absurd v
divided (inf s) x v = absurd v
divided (fin s m e) x v =
    ap (λ (t : Bool). round binary64 (unlike t false) (m * up e * 1) (1 * 2 ^ 32 * down e)) v.0 ∙
    round_same binary64 false (m * up e * 1) (1 * 2 ^ 32 * down e) x (2 ^ 32) (mul-pos (pow_pos 32) (down_pos e)) (pow_pos 32)
    (ap (λ (n : ℕ). n * 2 ^ 32) v.1 ∙ mul_right_comm x (down e) (2 ^ 32) ∙ mul_assoc x (2 ^ 32) (down e))

-- x as a double, divided by 2^32
share_divided : (x : ℕ) → x < 2 ^ 53 → div binary64 (of_int binary64 (pos x)) scale ≡ round binary64 false x (2 ^ 32)
unfolding of_int
share_divided x l = divided (round binary64 false x 1) x (round_whole binary64 false x (le_of_lt l))

pub share_double : (x : ℕ) → x < 2 ^ 53 → to_bits binary64 (div binary64 (of_int binary64 (pos x)) scale) ≡ share_bits x
share_double x l = ap (to_bits binary64) (share_divided x l) ∙ value_bits (round binary64 false x (2 ^ 32)) x l (share_value x l)

-- bits below the infinity's are a number's
pub bits_number : (y : Float) (n : ℕ) → to_bits binary64 y ≡ n → n < 2047 * 2 ^ 52 → T (not (is_nan y))
unfolding is_nan to_bits
bits_number nan n e h = absurd (omega arith)
bits_number (inf s) n e h = tt
bits_number (fin s m k) n e h = tt

-- ---- and back

-- the bits are of the double x / 2^32
share_of_bits : (x : ℕ) → x < 2 ^ 53 → of_bits binary64 (share_bits x) ≡ round binary64 false x (2 ^ 32)
share_of_bits x l =
    let y = round binary64 false x (2 ^ 32) in
    ap (of_bits binary64) (sym (value_bits y x l (share_value x l))) ∙ of_bits-to_bits binary64 y (round-fits binary64 false x (2 ^ 32))

-- the library reads them as that value, too
pub share_is_value : (x : ℕ) → x < 2 ^ 53 → HasValue (of_bits binary64 (share_bits x)) false x (2 ^ 32)
share_is_value x l = subst (λ (y : Float). HasValue y false x (2 ^ 32)) (sym (share_of_bits x l)) (share_value x l)

-- a double that is x / 2^32, times 2^32
multiplied : (y : Float) (x : ℕ) → HasValue y false x (2 ^ 32) → mul binary64 y scale ≡ round binary64 false x 1
unfolding mul
multiplied nan x v = absurd v
multiplied (inf s) x v = absurd v
multiplied (fin s m e) x v =
    ap (λ (t : Bool). round binary64 (unlike t false) (m * up e * (1 * 2 ^ 32)) (down e * 1)) v.0 ∙
    round_same binary64 false (m * up e * (1 * 2 ^ 32)) (down e * 1) x 1 (mul-pos (down_pos e) (pow_pos 0)) (pow_pos 0)
    (mul-one (m * up e * 2 ^ 32) ∙ v.1 ∙ ap (λ (n : ℕ). x * n) (sym (mul-one (down e))))

-- a whole double below 2^53 is below 2^64
whole_below : (y : Float) (x : ℕ) → x < 2 ^ 53 → HasValue y false x 1 → T (lt y word_end)
unfolding lt
whole_below nan x l v = absurd v
whole_below (inf s) x l v = absurd v
whole_below (fin s m e) x l v =
    subst (λ (t : Bool). T (below t (m * up e * 1) false (1 * 2 ^ 64 * down e))) (sym v.0)
    (lt→ltb (m * up e * 1) (1 * 2 ^ 64 * down e)
    (subst (λ (n : ℕ). n < 1 * 2 ^ 64 * down e) (sym v.1) (mul-lt-mul_of_pos_right (omega arith) (down_pos e))))

module _ (b x : ℕ) (l : x < 2 ^ 53) (e : share_bits x ≡ b) where
  -- the double of a share's bits, times 2^32, is the number
  scaled : mul binary64 (of_bits binary64 b) scale ≡ round binary64 false x 1
  scaled =
      ap (λ (n : ℕ). mul binary64 (of_bits binary64 n) scale) (sym e) ∙ ap (λ (y : Float). mul binary64 y scale) (share_of_bits x l) ∙
      multiplied (round binary64 false x (2 ^ 32)) x (share_value x l)

  pub scaled_below : T (lt (mul binary64 (of_bits binary64 b) scale) word_end)
  scaled_below =
      subst (λ (y : Float). T (lt y word_end)) (sym scaled)
      (whole_below (round binary64 false x 1) x l (round_whole binary64 false x (le_of_lt l)))

  pub scaled_number : to_unsigned 64 (mul binary64 (of_bits binary64 b) scale) ≡ x
  unfolding of_int in_float
  scaled_number = ap (to_unsigned 64) scaled ∙ (unsigned_back binary64 64 x (le→leb x (2 ^ 53) (le_of_lt l)) (omega arith)).1

-- ---- bits below the infinity's

number_bits : (b : ℕ) → b < 2047 * 2 ^ 52 → nan_bits binary64 b ≡ false
number_bits b h =
    nan_bits_above binary64 b ∙
    ap (λ (n : ℕ). ltb (2047 * 2 ^ 52) n) (mod-eq_of_lt {n = b} {m = 2 ^ 63} (omega arith)) ∙
    is_false (ltb (2047 * 2 ^ 52) b) (le→nltb (2047 * 2 ^ 52) b (le_of_lt h))

pub number_pattern : (b : ℕ) → b < 2047 * 2 ^ 52 → T (not (nan_bits binary64 b))
number_pattern b h = subst (λ (t : Bool). T (not t)) (sym (number_bits b h)) tt

-- a double that is a number and carries no minus sign
abbrev Unsigned : Float → Type 0
Unsigned nan = ⊥
Unsigned (inf s) = s ≡ false
Unsigned (fin s m e) = s ≡ false

odd_unsigned : (d q k l : ℕ) → Unsigned (odd d false q k l)
unfolding odd
odd_unsigned d zero k l = refl
odd_unsigned d (suc q) k l = refl

cond_unsigned : (t : Bool) (y : Float) → Unsigned y → Unsigned (cond t y (inf false))
cond_unsigned true y u = u
cond_unsigned false y u = refl

units_unsigned : (q k : ℕ) → Unsigned (units binary64 false q k)
unfolding units
units_unsigned q k = cond_unsigned (ltb (q * 2 ^ k) (2 ^ 2098)) (odd 54 false q k 1074) (odd_unsigned 54 q k 1074)

round_unsigned : (a c : ℕ) → Unsigned (round binary64 false a c)
round_unsigned a c =
    let k = size (a * 2 ^ 1074 / c) - 53 in
    let u = c * 2 ^ k in
    subst Unsigned (sym (round_is binary64 false a c))
    (units_unsigned (nearest (a * 2 ^ 1074 / u) (compare (a * 2 ^ 1074 % u * 2) u)) k)

fields_unsigned : (x t : ℕ) → x < 2047 → Unsigned (of_fields binary64 false x t)
unfolding of_fields
fields_unsigned zero t h = odd_unsigned 53 t 0 1074
fields_unsigned (suc x) t h =
    subst Unsigned
    (sym (cond_no (eqb (suc x) 2047) (cond (eqb t 0) (inf false) nan) (odd 53 false (2 ^ 52 + t) x 1074)
    (not_T (eqb (suc x) 2047) (λ q. let e = eqb→eq (suc x) 2047 q in omega arith))))
    (odd_unsigned 53 (2 ^ 52 + t) x 1074)

bits_unsigned : (b : ℕ) → b < 2047 * 2 ^ 52 → Unsigned (of_bits binary64 b)
unfolding of_bits
bits_unsigned b h =
    subst (λ (s : Bool). Unsigned (of_fields binary64 s (b % 2 ^ 63 / 2 ^ 52) (b % 2 ^ 52)))
    (sym (is_false (leb (2 ^ 63) b) (lt→nleb (2 ^ 63) b (omega arith))))
    (fields_unsigned (b % 2 ^ 63 / 2 ^ 52) (b % 2 ^ 52) (omega arith))

times_unsigned : (y : Float) → Unsigned y → Unsigned (mul binary64 y scale)
unfolding mul
times_unsigned nan u = absurd u
times_unsigned (inf s) u = ap (λ (t : Bool). unlike t false) u
times_unsigned (fin s m e) u =
    subst (λ (t : Bool). Unsigned (round binary64 (unlike t false) (m * up e * (1 * 2 ^ 32)) (down e * 1))) (sym u)
    (round_unsigned (m * up e * (1 * 2 ^ 32)) (down e * 1))

above_minus_one : (y : Float) → Unsigned y → T (lt (fin true 1 (pos 0)) y)
unfolding lt
above_minus_one nan u = absurd u
above_minus_one (inf s) u = subst (λ (t : Bool). T (not t)) (sym u) tt
above_minus_one (fin s m e) u =
    subst (λ (t : Bool). T (below true (1 * 1 * down e) t (m * up e * 1))) (sym u)
    (lt→ltb 0 (1 * 1 * down e + m * up e * 1) (let d = down_pos e in omega arith))

-- such a double times 2^32 is above -1
pub scaled_above : (b : ℕ) → b < 2047 * 2 ^ 52 → T (lt (fin true 1 (pos 0)) (mul binary64 (of_bits binary64 b) scale))
scaled_above b h =
    above_minus_one (mul binary64 (of_bits binary64 b) scale) (times_unsigned (of_bits binary64 b) (bits_unsigned b h))
