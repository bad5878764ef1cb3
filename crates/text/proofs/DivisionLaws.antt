-- Laws of division by ten, rounded down: the digits of a number are those of its tenth, then the last one.
-- Assumes nothing.
use Prim.Native.Nat.{ℕ, zero, suc, ◌+◌, ◌-◌, ◌/◌, ◌%◌, ◌^◌, ◌<◌, ◌≤◌}
use native.Mathlib.Omega.{arith}
use native.Mathlib.Nat.{pow-succ', div-one, div-div-eq-div-mul, mod-lt, mod-eq_of_lt}
use native.Mathlib.Numerals.{add-one}
use mathlib.Core.Path.{◌≡◌, refl, sym, ap, ◌∙◌}
use mathlib.Core.List.{List, [], ◌∷◌, ◌++◌}
use lib.Dec.{lit<}
use lib.ListN.{length, set, length-append}
use lib.Seq.{sets}
use Rattle.text.specs.Decimal.{code, codes, digit_count, decimal}
use Rattle.text.specs.Written.{Put}
use Rattle.text.proofs.DecimalLaws.{digits_positive, digits_long, digits_short, below_power, power_below, length_decimal}
use Rattle.text.proofs.WrittenLaws.{written_sets}
use Rattle.text.proofs.PutLaws.{put_both}

-- ---- how many digits

-- a number below 10 has one digit
digits_one : (x : ℕ) → x < 10 → digit_count x ≡ 1
digits_one x h = omega (arith, digits_positive x, digits_short x 1 (lit< tt) h)

-- a tenth of a number of several digits has one digit less
digits_tenth : (x : ℕ) → 10 ≤ x → x < 10 ^ 20 → digit_count x ≡ digit_count (x / 10) + 1
digits_tenth x several h =
    let few : digit_count (x / 10) ≤ 19 = digits_short (x / 10) 19 (lit< tt) (omega arith) in
    let e : suc (digit_count (x / 10) - 1) ≡ digit_count (x / 10) = omega (arith, digits_positive (x / 10)) in
    let low : 10 ^ digit_count (x / 10) ≤ x =
    rw (sym e, pow-succ' 10 (digit_count (x / 10) - 1)) (omega (arith, power_below (x / 10) (omega arith))) in
    let high : x < 10 ^ suc (digit_count (x / 10)) =
    rw (pow-succ' 10 (digit_count (x / 10))) (omega (arith, below_power (x / 10) (omega arith))) in
    omega (arith, digits_long x (digit_count (x / 10)) (omega arith) low, digits_short x (suc (digit_count (x / 10))) (omega arith) high)

-- ---- the codes

-- the digit of a tenth that counts 10^k is that of the number that counts 10^(k + 1)
code_tenth : (x k : ℕ) → code (x / 10) k ≡ code x (suc k)
unfolding code
code_tenth x k =
    ap (λ n. n % 10 + 48) (div-div-eq-div-mul x 10 (10 ^ k) ∙ ap (λ n. x / n) (sym (pow-succ' 10 k)))

-- the last digit
code_last : (x : ℕ) → code x 0 ≡ x % 10 + 48
unfolding code
code_last x = ap (λ n. n % 10 + 48) (div-one x)

codes_tenth : (x k : ℕ) → codes x (suc k) ≡ codes (x / 10) k ++ (code x 0 ∷ [])
unfolding codes
codes_tenth x zero = refl
codes_tenth x (suc k) =
    ap (λ c. c ∷ codes x (suc k)) (sym (code_tenth x k)) ∙ ap (λ l. code (x / 10) k ∷ l) (codes_tenth x k)

-- ---- numbers in decimal

-- a number below 10 is its digit
decimal_digit : (x : ℕ) → x < 10 → decimal x ≡ (x + 48) ∷ []
unfolding decimal codes
decimal_digit x h =
    ap (codes x) (digits_one x h) ∙ ap (λ c. c ∷ []) (code_last x ∙ ap (λ n. n + 48) (mod-eq_of_lt h))

-- a number of several digits is its tenth, then its last digit
decimal_tenth : (x : ℕ) → 10 ≤ x → x < 10 ^ 20 → decimal x ≡ decimal (x / 10) ++ decimal (x % 10)
unfolding decimal
decimal_tenth x several h =
    let last = ap (λ c. c ∷ []) (code_last x) ∙ sym (decimal_digit (x % 10) (mod-lt x (lit< tt))) in
    ap (codes x) (digits_tenth x several h ∙ add-one (digit_count (x / 10))) ∙ codes_tenth x (digit_count (x / 10)) ∙
    ap (λ l. decimal (x / 10) ++ l) last

-- as many digits as its tenth and its last digit have
pub length_tenth :
    (x : ℕ) → 10 ≤ x → x < 10 ^ 20 → length (decimal x) ≡ length (decimal (x / 10)) + length (decimal (x % 10))
length_tenth x several h =
    ap length (decimal_tenth x several h) ∙ length-append (decimal (x / 10)) (decimal (x % 10))

-- ---- a number written

module _ (at x : ℕ) (old : List ℕ) (room : at + length (decimal x) ≤ length old) where
  -- there is room for one digit
  pub digit_room : at < length old
  digit_room = omega (arith, length_decimal x, digits_positive x)

  -- a number below 10 is written by its digit
  pub digit_put : x < 10 → Put at (decimal x) old (at + 1) (set old at (x + 48))
  digit_put one =
      record {
        place = ap (λ l. at + length l) (sym (decimal_digit x one));
        contents = sym (written_sets at (decimal x) old room ∙ ap (sets old at) (decimal_digit x one));
      }

  -- a number of several digits is written by its tenth and its last digit behind that
  pub tenth_put :
      10 ≤ x → x < 10 ^ 20 → (a : ℕ) (mid : List ℕ) → Put at (decimal (x / 10)) old a mid → (b : ℕ) (now : List ℕ) →
      Put a (decimal (x % 10)) mid b now → Put at (decimal x) old b now
  tenth_put several below a mid p b now q =
      let e = decimal_tenth x several below in
      rw e (put_both at (decimal (x / 10)) (decimal (x % 10)) old (rw (sym e) room) a mid p b now q)
