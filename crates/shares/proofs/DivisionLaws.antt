-- Laws of a division with a rest: its whole part, and what doubling a number again and again leaves.
-- Assumes nothing.
use Prim.Native.Nat.{ℕ, ◌+◌, ◌*◌, ◌/◌, ◌^◌, ◌≤◌, ◌<◌}
use mathlib.Core.Path.{◌≡◌, sym, ap, ◌∙◌}
use native.Mathlib.Omega.{arith}
use native.Mathlib.Nat.{mul-lt-mul_of_pos_left, lt_of_mul-lt-mul_right, lt_of_lt_of_le, mul_assoc, pow-succ'}
use native.Mathlib.Numerals.{add-one}
use lib.Arith.{digits_div}
use lib.Pow.{pow_pos, pow_mono}
use Rattle.shares.specs.Division.{Divided}

-- the whole part is x ÷ count
pub divided_whole : {count q r x : ℕ} → Divided count q r x → q ≡ x / count
divided_whole {count} {q} d = sym (digits_div q d.small) ∙ ap (λ n. n / count) d.number

-- a number below count, doubled no times, has the whole part 0
pub doubled_none : {t count : ℕ} → t < count → Divided count 0 t (2 ^ 0 * t)
doubled_none less = record { number = omega arith; small = less }

-- a number doubled i times, and once more
pub doubled_more : (t i : ℕ) {count q r q' r' : ℕ} → Divided count q r (2 ^ i * t)
    → Divided count q' r' (2 * (q * count + r))
    → Divided count q' r' (2 ^ (i + 1) * t)
doubled_more t i d e =
    record {
      number = e.number ∙ rw (d.number, add-one, pow-succ' 2 i) (sym (mul_assoc 2 (2 ^ i) t));
      small = e.small;
    }

-- a number below count, doubled at most k times, has a whole part below 2^k
pub doubled_below : {i t count q r : ℕ} (k : ℕ) → i ≤ k → t < count → Divided count q r (2 ^ i * t) → q < 2 ^ k
doubled_below {i} {t} {count} k few less d =
    let product : 2 ^ i * t < 2 ^ i * count = mul-lt-mul_of_pos_left less (pow_pos i) in
    lt_of_lt_of_le (lt_of_mul-lt-mul_right count (omega (arith, d.number))) (pow_mono few)
