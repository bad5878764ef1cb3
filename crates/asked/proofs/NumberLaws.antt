-- Laws of words read as numbers: one step of reading, and that a number in decimal is read as that number.
-- Assumes nothing.
use Prim.Native.Nat.{ℕ, zero, suc, ◌+◌, ◌-◌, ◌*◌, ◌^◌, ◌<◌, ◌≤◌, min}
use native.Mathlib.Omega.{arith}
use native.Mathlib.Nat.{not-suc-le-zero}
use native.Mathlib.Numerals.{add-one}
use mathlib.Core.Path.{◌≡◌, refl, ap, sym, ◌∙◌}
use mathlib.Core.Bool.{true, false, cond}
use mathlib.Core.List.{List, [], ◌∷◌}
use Rattle.std.specs.Prelude.{Option, Some, None}
use borrow.Author.Tests.{le-leb, lt-leb}
use lib.ListN.{length, get_or, drop}
use lib.Seq.{drop-cons}
use Rattle.text.specs.Decimal.{decimal, read_on, value}
use Rattle.text.specs.Field.{ascii}
use Rattle.text.proofs.DecimalLaws.{length_decimal, digits_positive, decimal_within, value_decimal}
use Rattle.asked.specs.Asked.{largest, is_digit, only_digits, is_number, number_of}

-- what is read from a number on, with these codes behind its digits
unfoldable pub word_on : ℕ → List ℕ → Option ℕ
word_on x l = cond (only_digits l) (Some (min (read_on x l) largest)) None

-- ---- codes

digit_is : (c : ℕ) → 48 ≤ c → c ≤ 57 → is_digit c ≡ true
unfolding is_digit
digit_is c low high = rw (le-leb 48 c low) (le-leb c 57 high)

low_is_none : (c : ℕ) → c < 48 → is_digit c ≡ false
unfolding is_digit
low_is_none c low = rw (lt-leb 48 c low)

high_is_none : (c : ℕ) → 57 < c → is_digit c ≡ false
unfolding is_digit
high_is_none c high = rw (le-leb 48 c (omega arith)) (lt-leb c 57 high)

-- ---- one step

-- one digit more, with larger numbers counted as the largest before it and behind it
step_within : (y d : ℕ) → min (min y largest * 10 + d) largest ≡ min (y * 10 + d) largest
step_within y d = omega arith

-- a number above the largest stays above it
read_within : (l : List ℕ) (y : ℕ) → min (read_on (min y largest) l) largest ≡ min (read_on y l) largest
unfolding read_on
read_within [] y = omega arith
read_within (c ∷ l) y =
    sym (read_within l (min y largest * 10 + (c - 48))) ∙
    ap (λ (n : ℕ). min (read_on n l) largest) (step_within y (c - 48)) ∙
    read_within l (y * 10 + (c - 48))

on_digit :
    (x c : ℕ) (l : List ℕ) → is_digit c ≡ true → word_on x (c ∷ l) ≡ word_on (min (x * 10 + (c - 48)) largest) l
unfolding word_on only_digits read_on
on_digit x c l e = rw e (ap (λ n. cond (only_digits l) (Some n) None) (sym (read_within l (x * 10 + (c - 48)))))

on_none : (x c : ℕ) (l : List ℕ) → is_digit c ≡ false → word_on x (c ∷ l) ≡ None
unfolding word_on only_digits
on_none x c l e = rw e

-- ---- the loop

pub number_empty : (w : List ℕ) → length w ≡ 0 → None ≡ number_of w
unfolding number_of is_number
number_empty [] e = refl
number_empty (c ∷ l) e = absurd (omega arith)

pub number_start : (w : List ℕ) → 0 < length w → word_on 0 w ≡ number_of w
unfolding number_of is_number word_on value
number_start [] h = absurd (not-suc-le-zero h)
number_start (c ∷ l) h = refl

module _ (w : List ℕ) (x i : ℕ) (within : i < length w) (so_far : word_on x (drop i w) ≡ number_of w) where
  pub number_low : get_or w i 0 < 48 → None ≡ number_of w
  number_low low =
      sym (on_none x (get_or w i 0) (drop (suc i) w) (low_is_none _ low)) ∙ sym (ap (word_on x) (drop-cons w i 0 within)) ∙ so_far

  pub number_high : 57 < get_or w i 0 → None ≡ number_of w
  number_high high =
      sym (on_none x (get_or w i 0) (drop (suc i) w) (high_is_none _ high)) ∙ sym (ap (word_on x) (drop-cons w i 0 within)) ∙ so_far

  pub number_more :
      (r : ℕ) → 48 ≤ get_or w i 0 → get_or w i 0 ≤ 57 → r ≡ min (x * 10 + (get_or w i 0 - 48)) largest →
      word_on r (drop (i + 1) w) ≡ number_of w
  number_more r low high e =
      rw (e, add-one i)
      (sym (on_digit x (get_or w i 0) (drop (suc i) w) (digit_is _ low high)) ∙ sym (ap (word_on x) (drop-cons w i 0 within)) ∙ so_far)

-- behind the last code
on_end : (w : List ℕ) (x i : ℕ) → length w ≤ i → x ≤ largest → word_on x (drop i w) ≡ Some x
unfolding word_on only_digits read_on
on_end [] x zero h small = ap Some (omega arith)
on_end [] x (suc i) h small = ap Some (omega arith)
on_end (c ∷ l) x zero h small = absurd (not-suc-le-zero h)
on_end (c ∷ l) x (suc i) h small = on_end l x i (omega arith) small

pub number_end :
    (w : List ℕ) (x i : ℕ) → length w ≤ i → x ≤ largest → word_on x (drop i w) ≡ number_of w → Some x ≡ number_of w
number_end w x i h small so_far = sym (on_end w x i h small) ∙ so_far

-- ---- a number in decimal

all_digits :
    (l : List ℕ) → ((i : ℕ) → i < length l → (48 ≤ get_or l i 0) × (get_or l i 0 ≤ 57)) → only_digits l ≡ true
unfolding only_digits
all_digits [] h = refl
all_digits (c ∷ l) h =
    rw (digit_is c (h 0 (omega arith)).0 (h 0 (omega arith)).1) (all_digits l (λ i q. h (suc i) (omega arith)))

some_number : (l : List ℕ) → 0 < length l → only_digits l ≡ true → is_number l ≡ true
unfolding is_number
some_number [] h e = absurd (not-suc-le-zero h)
some_number (c ∷ l) h e = e

-- a number in decimal is read as that number, for every number that a usize holds
pub asked_decimal : (x : ℕ) → x < 2 ^ 64 → number_of (decimal x) ≡ Some x
unfolding number_of
asked_decimal x h =
    let digits = all_digits (decimal x) (decimal_within x) in
    let some : 0 < length (decimal x) = omega (arith, length_decimal x, digits_positive x) in
    rw (some_number (decimal x) some digits, value_decimal x (omega arith)) (ap Some (omega arith))

-- a zero in front of a number changes nothing
pub zero_in_front : (c : ℕ) (l : List ℕ) → number_of (48 ∷ c ∷ l) ≡ number_of (c ∷ l)
unfolding number_of is_number only_digits is_digit value read_on
zero_in_front c l = refl

-- ---- words, by computation

pub leading_zero : number_of (ascii "07") ≡ Some 7
unfolding number_of is_number only_digits is_digit value read_on
leading_zero = refl

pub one_too_large : number_of (ascii "18446744073709551616") ≡ Some largest
unfolding number_of is_number only_digits is_digit value read_on
one_too_large = refl

pub no_digits : number_of (ascii "") ≡ None
unfolding number_of is_number
no_digits = refl

pub a_sign : number_of (ascii "+7") ≡ None
unfolding number_of is_number only_digits is_digit
a_sign = refl

pub a_blank : number_of (ascii "7 ") ≡ None
unfolding number_of is_number only_digits is_digit
a_blank = refl
