-- Words read as decimal numbers, and what two words ask for: a station and a number of walks. Definitions only.
-- Assumes nothing.
use Rattle.std.specs.Prelude.{ℕ, ◌≤◌, min, Bool, true, false, cond, List, [], ◌∷◌, Option, Some, None, eqb, leb}
use Rattle.text.specs.Decimal.{value}
use Rattle.asked.specs.declared.Request.{Request}

-- the largest number of 64 bits
abbrev pub largest : ℕ
largest = 18446744073709551615

-- whether a code is that of a decimal digit, 48 to 57
unfoldable pub is_digit : ℕ → Bool
is_digit c = cond (leb 48 c) (leb c 57) false

-- whether every code is that of a decimal digit
unfoldable pub only_digits : List ℕ → Bool
only_digits [] = true
only_digits (c ∷ l) = cond (is_digit c) (only_digits l) false

-- whether a word is a number: digits alone, at least one
unfoldable pub is_number : List ℕ → Bool
is_number [] = false
is_number (c ∷ l) = only_digits (c ∷ l)

-- what a word says: the number whose digits it has, which may begin with zeros; every number above the largest counts as the largest
unfoldable pub number_of : List ℕ → Option ℕ
number_of w = cond (is_number w) (Some (min (value w) largest)) None

-- the most walks that may be asked for
abbrev pub most_asked : ℕ
most_asked = 8

-- what two words ask for
unfoldable pub asked : Option ℕ → Option ℕ → Option Request
asked (Some v) (Some k) = cond (leb k most_asked) (Some (record { station = v; walks = k })) None
asked (Some v) None = None
asked None b = None

-- what so many arguments ask for, the program's name among them, with two words behind it
unfoldable pub request_of : ℕ → List ℕ → List ℕ → Option Request
request_of count first second = cond (eqb count 3) (asked (number_of first) (number_of second)) None

-- no more walks than may be asked for
abbrev pub RequestWithin : Option Request → Type 0
RequestWithin (Some r) = r.walks ≤ most_asked
RequestWithin None = Unit {0}
