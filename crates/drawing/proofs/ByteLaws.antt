-- Numbers and their bytes: equal bytes are equal numbers, and bytes read are bytes written. Runs of stores.
-- Assumes nothing.
use Rattle.std.proofs.Common.{◌≡◌, ℕ, zero, suc, ◌+◌, ◌*◌, ◌/◌, ◌%◌, ◌^◌, ◌<◌, T, ltb, List, [], ◌∷◌, ◌++◌, length, get_or, take, drop, set, sym, refl, ap, ◌∙◌, subst, ap₂, add-zero, mod-lt, mod-eq_of_lt, mul-pos, div-one, arith, lt→ltb, drop_of_length-le, drop-cons, slice_range, w16, w64, append_assoc, ◌-◌, ◌≤◌}
use native.Mathlib.Nat.{pow-succ', mod-mod, mod-one, mul-add-mod_self_right}
use mathlib.Core.List.{head-eq_of_cons-eq, tail-eq_of_cons-eq}
use lib.Arith.{digits_lt, digits_div, digits_mod, mod-mul}
use lib.Pow.{are_bytes}
use lib.Ieee.Fits.{and_i, and_l, and_r}
use lib.Seq.{sets, sets-eq, drop-drop}
use borrow.Rule.Slice.PartMut.{put_mid}
use Rattle.std.specs.Int.{bytes_high_first, to_be_bytes}
use Rattle.temporal.specs.Drawing.{bytes_of}
use Rattle.drawing.specs.Bytes.{number_at}

power_pos : (k : ℕ) → 0 < 256 ^ k
power_pos zero = omega arith
power_pos (suc k) = subst (λ (n : ℕ). 0 < n) (sym (pow-succ' 256 k)) (mul-pos (omega arith) (power_pos k))

-- ---- bytes of a number

-- one byte more
byte_more : (k x : ℕ) → x % 256 ^ suc k ≡ x / 256 ^ k % 256 * 256 ^ k + x % 256 ^ k
byte_more k x = ap (λ (n : ℕ). x % n) (pow-succ' 256 k) ∙ mod-mul x (omega arith) (power_pos k)

-- the bytes of a number are those of what it leaves
bytes_same : (k x y : ℕ) → x % 256 ^ k ≡ y % 256 ^ k → bytes_of k x ≡ bytes_of k y
unfolding bytes_of
bytes_same zero x y e = refl
bytes_same (suc k) x y e =
    let both : x / 256 ^ k % 256 * 256 ^ k + x % 256 ^ k ≡ y / 256 ^ k % 256 * 256 ^ k + y % 256 ^ k =
    sym (byte_more k x) ∙ e ∙ byte_more k y
    in
    let rest_x : x % 256 ^ k < 256 ^ k = mod-lt x (power_pos k) in
    let rest_y : y % 256 ^ k < 256 ^ k = mod-lt y (power_pos k) in
    ap₂ ◌∷◌
    (sym (digits_div (x / 256 ^ k % 256) rest_x) ∙ ap (λ (n : ℕ). n / 256 ^ k) both ∙ digits_div (y / 256 ^ k % 256) rest_y)
    (bytes_same k x y
    (sym (digits_mod (x / 256 ^ k % 256) rest_x) ∙ ap (λ (n : ℕ). n % 256 ^ k) both ∙ digits_mod (y / 256 ^ k % 256) rest_y))

bytes_number : (k x y : ℕ) → bytes_of k x ≡ bytes_of k y → x % 256 ^ k ≡ y % 256 ^ k
unfolding bytes_of
bytes_number zero x y e = mod-one x ∙ sym (mod-one y)
bytes_number (suc k) x y e =
    byte_more k x ∙
    ap₂ (λ (q r : ℕ). q * 256 ^ k + r) (head-eq_of_cons-eq e) (bytes_number k x y (tail-eq_of_cons-eq e)) ∙
    sym (byte_more k y)

pub bytes_injective : (k x y : ℕ) → x < 256 ^ k → y < 256 ^ k → bytes_of k x ≡ bytes_of k y → x ≡ y
bytes_injective k x y h l e = sym (mod-eq_of_lt h) ∙ bytes_number k x y e ∙ mod-eq_of_lt l

pub are_bytes_law : (k x : ℕ) → T (are_bytes (bytes_of k x))
unfolding bytes_of
are_bytes_law zero x = tt
are_bytes_law (suc k) x =
    and_i (ltb (x / 256 ^ k % 256) 256) (are_bytes (bytes_of k x))
    (lt→ltb (x / 256 ^ k % 256) 256 (mod-lt (x / 256 ^ k) (omega arith))) (are_bytes_law k x)

pub are_bytes_append : (l m : List ℕ) → T (are_bytes l) → T (are_bytes m) → T (are_bytes (l ++ m))
are_bytes_append [] m h k = k
are_bytes_append (d ∷ l) m h k =
    and_i (ltb d 256) (are_bytes (l ++ m)) (and_l (ltb d 256) (are_bytes l) h) (are_bytes_append l m (and_r (ltb d 256) (are_bytes l) h) k)

-- ---- bytes that are read

-- k entries from a place on
abbrev pub entries_at : List ℕ → ℕ → ℕ → List ℕ
entries_at l at zero = []
entries_at l at (suc k) = get_or l at 0 ∷ entries_at l (suc at) k

pub entries_all : (l : List ℕ) (at k : ℕ) → length l ≡ at + k → drop at l ≡ entries_at l at k
entries_all l at zero e = drop_of_length-le l {i = at} (omega arith)
entries_all l at (suc k) e = drop-cons l at 0 (omega arith) ∙ ap (λ r. get_or l at 0 ∷ r) (entries_all l (suc at) k (omega arith))

-- as a range has them
pub entries_some : (l : List ℕ) (at k : ℕ) → at + k ≤ length l → slice_range l at (at + k) ≡ entries_at l at k
entries_some l at zero h = let e : at + 0 - at ≡ 0 = omega arith in rw e refl
entries_some l at (suc k) h =
    let e : at + suc k - at ≡ suc k = omega arith in
    let next : suc at + k - suc at ≡ k = omega arith in
    rw (e, drop-cons l at 0 (omega arith)) (ap (λ r. get_or l at 0 ∷ r) (rw next at (entries_some l (suc at) k (omega arith))))

module _ (l : List ℕ) (small : (i : ℕ) → get_or l i 0 < 256) where
  pub number_below : (at k : ℕ) → number_at l at k < 256 ^ k
  unfolding number_at
  number_below at zero = omega arith
  number_below at (suc k) =
      subst (λ (n : ℕ). get_or l at 0 * 256 ^ k + number_at l (suc at) k < n) (sym (pow-succ' 256 k))
      (digits_lt (small at) (number_below (suc at) k))

  -- the bytes of the number are the bytes that were read
  pub bytes_read : (at k : ℕ) → bytes_of k (number_at l at k) ≡ entries_at l at k
  unfolding number_at bytes_of
  bytes_read at zero = refl
  bytes_read at (suc k) =
      let d = get_or l at 0 in
      let n = number_at l (suc at) k in
      ap₂ ◌∷◌
      (ap (λ (q : ℕ). q % 256) (digits_div d (number_below (suc at) k)) ∙ mod-eq_of_lt (small at))
      (bytes_same k (d * 256 ^ k + n) n (mul-add-mod_self_right d (256 ^ k) n) ∙ bytes_read (suc at) k)

-- ---- stores

-- stores of two lists, one behind the other
pub sets_append : (x y l : List ℕ) (i : ℕ) → sets (sets l i x) (i + length x) y ≡ sets l i (x ++ y)
sets_append [] y l i = ap (λ k. sets l k y) (add-zero i)
sets_append (a ∷ x) y l i =
    let e : i + suc (length x) ≡ suc i + length x = omega arith in
    ap (λ k. sets (sets (set l i a) (suc i) x) k y) e ∙ sets_append x y (set l i a) (suc i)

-- a copy into a part of a list
pub part_stored :
    (l x part : List ℕ) (at : ℕ) → at + length x ≤ length l → part ≡ x → put_mid at (at + length x - at) l part ≡ sets l at x
part_stored l x part at fits e =
    let n : at + length x - at ≡ length x = omega arith in
    rw (e, n, drop-drop (length x) at l) (sym (append_assoc (take at l) x (drop (at + length x) l)) ∙ sym (sets-eq x l at fits))

-- the bytes of std
pub bytes_high : (k x : ℕ) → bytes_high_first k x ≡ bytes_of k x
unfolding bytes_of
bytes_high zero x = refl
bytes_high (suc zero) x = rw (div-one x) refl
bytes_high (suc (suc k)) x = ap (λ r. x / 256 ^ suc k % 256 ∷ r) (bytes_high (suc k) x)

bytes_length : (k x : ℕ) → length (bytes_of k x) ≡ k
unfolding bytes_of
bytes_length zero x = refl
bytes_length (suc k) x = ap suc (bytes_length k x)

pub double_stored : (l part : List ℕ) (at x : ℕ) → at + 8 ≤ length l → part ≡ to_be_bytes w64 x → put_mid at (at + 8 - at) l part ≡ sets l at (bytes_of 8 x)
double_stored l part at x fits e =
    rw (bytes_length 8 x) at (part_stored l (bytes_of 8 x) part at (omega (arith, bytes_length 8 x)) (e ∙ bytes_high 8 x))

-- the two lowest bytes are those of what 2^16 leaves
pub word_stored : (l part : List ℕ) (at x : ℕ) → at + 2 ≤ length l → part ≡ to_be_bytes w16 (x % 65536) → put_mid at (at + 2 - at) l part ≡ sets l at (bytes_of 2 x)
word_stored l part at x fits e =
    let same : bytes_of 2 (x % 65536) ≡ bytes_of 2 x = bytes_same 2 (x % 65536) x (mod-mod x 65536) in
    rw (bytes_length 2 x) at
    (part_stored l (bytes_of 2 x) part at (omega (arith, bytes_length 2 x)) (e ∙ bytes_high 2 (x % 65536) ∙ same))
