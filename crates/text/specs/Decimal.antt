-- A number as decimal digits in ASCII, the most significant first. Definitions only.
-- Assumes nothing.
use Rattle.std.specs.Prelude.{ℕ, zero, suc, ◌+◌, ◌-◌, ◌*◌, ◌/◌, ◌%◌, ◌^◌, cond, List, [], ◌∷◌, leb}

-- the ASCII code of the digit of x that counts 10^k; 48 is the code of the digit 0
unfoldable pub code : ℕ → ℕ → ℕ
code x k = x / 10 ^ k % 10 + 48

-- the codes of the last k digits of x, the most significant first
unfoldable pub codes : ℕ → ℕ → List ℕ
codes x zero = []
codes x (suc k) = code x k ∷ codes x k

-- how many of the powers 10^1 .. 10^k are at most x
unfoldable pub powers_up_to : ℕ → ℕ → ℕ
powers_up_to x zero = 0
powers_up_to x (suc k) = powers_up_to x k + cond (leb (10 ^ suc k) x) 1 0

-- how many digits a number below 10^20 has; 0 has one
unfoldable pub digit_count : ℕ → ℕ
digit_count x = 1 + powers_up_to x 19

-- a number below 10^20 in decimal: no leading zero, and one digit for 0
unfoldable pub decimal : ℕ → List ℕ
decimal x = codes x (digit_count x)

-- the number that begins with the digits of x and goes on with those of a list of codes
unfoldable pub read_on : ℕ → List ℕ → ℕ
read_on x [] = x
read_on x (c ∷ l) = read_on (x * 10 + (c - 48)) l

-- the number whose digits have these codes
unfoldable pub value : List ℕ → ℕ
value l = read_on 0 l
