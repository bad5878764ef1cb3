-- The records that the drawing program takes (C-24): 18 bytes for a station, two of them its number and eight each a low and a high
-- double. A double is said by its 64 bits, and what they are worth in whole numbers. Definitions only.
-- Assumes nothing.
use Rattle.std.specs.Prelude.{ℕ, zero, suc, ◌+◌, ◌-◌, ◌*◌, ◌/◌, ◌%◌, ◌^◌, ◌<◌, ◌≤◌, ◌≡◌, ◌≢◌, cond, List, [], ◌∷◌, ◌++◌, eqb}
use Rattle.std.specs.Float.Ieee.{size}

-- ---- Doubles (IEEE 754, binary64)

-- the fields of a double's bits: 52 of the fraction, 11 of the exponent, and above them the sign
unfoldable pub fraction : ℕ → ℕ
fraction b = b % 2 ^ 52

unfoldable pub exponent : ℕ → ℕ
exponent b = b / 2 ^ 52 % 2 ^ 11

-- the fraction with its leading digit, which an exponent field of 0 does not have
unfoldable pub significand : ℕ → ℕ
significand b = cond (eqb (exponent b) 0) (fraction b) (2 ^ 52 + fraction b)

-- the size of a finite double, as a multiple of the least positive one, 2^-1074; an exponent field of 0 counts as 1
unfoldable pub multiple : ℕ → ℕ
multiple b = significand b * 2 ^ (exponent b - 1)

-- The bits are of a double that is finite, is not negative (and no negative zero), and is exactly x / 2^32 = x * 2^1042 * 2^-1074.
pub record ExactShare (b x : ℕ) : Type 0 where
  pub finite : exponent b < 2047
  pub positive : b < 2 ^ 63
  pub value : multiple b ≡ x * 2 ^ 1042

-- The bits of the double x / 2^32, for an x below 2^53: the digits of x behind the leading one, moved up to 52, and the exponent's
-- field above them. Of 0 they are positive zero.
unfoldable pub share_bits : ℕ → ℕ
share_bits zero = 0
share_bits (suc x) = (990 + size (suc x)) * 2 ^ 52 + (suc x * 2 ^ (53 - size (suc x)) - 2 ^ 52)

-- ---- Writing

-- what a station carries: the bits of its low and its high double; nothing where it is idle
pub data Carried : Type 0 where
  idle : Carried
  carries : ℕ → ℕ → Carried

-- of a station with this load and this number of pairs: idle without pairs, else load / 2^32 and (load + pairs) / 2^32
unfoldable pub carried : ℕ → ℕ → Carried
carried load zero = idle
carried load (suc pairs) = carries (share_bits load) (share_bits (load + suc pairs))

-- the bits that are written: both doubles of an idle station are positive zero
unfoldable pub low_bits : Carried → ℕ
low_bits idle = 0
low_bits (carries low high) = low

unfoldable pub high_bits : Carried → ℕ
high_bits idle = 0
high_bits (carries low high) = high

-- the k lowest bytes of a number, high byte first
unfoldable pub bytes_of : ℕ → ℕ → List ℕ
bytes_of zero x = []
bytes_of (suc k) x = x / 256 ^ k % 256 ∷ bytes_of k x

-- the record of a station and the bits of its doubles
unfoldable pub record_of : ℕ → ℕ → ℕ → List ℕ
record_of v low high = bytes_of 2 v ++ bytes_of 8 low ++ bytes_of 8 high

-- the record of a station with its load and its number of pairs
unfoldable pub drawn_record : ℕ → ℕ → ℕ → List ℕ
drawn_record v load pairs = record_of v (low_bits (carried load pairs)) (high_bits (carried load pairs))

-- ---- Reading

-- the station, load and pairs are within the limits, and their record is these bytes
pub record CouldWrite (v load pairs : ℕ) (bytes : List ℕ) : Type 0 where
  pub station_low : v < 256
  pub load_low : load < 2 ^ 49
  pub pairs_low : pairs < 2 ^ 49
  pub no_pairs : pairs ≡ 0 → load ≡ 0
  pub written : drawn_record v load pairs ≡ bytes

-- what reading bytes answers
pub data ReadBack : Type 0 where
  foreign : ReadBack
  station : ℕ → ℕ → ℕ → ReadBack

-- The answer that belongs to the bytes: a station with the load and the pairs that could write them, and foreign exactly where none
-- could. There is just one.
unfoldable pub Reads : List ℕ → ReadBack → Type 0
Reads bytes foreign = (v load pairs : ℕ) → CouldWrite v load pairs bytes → ⊥
Reads bytes (station v load pairs) = CouldWrite v load pairs bytes

-- Kinds of records of 18 bytes that are foreign, by the station and the bits of the doubles that stand in them.
pub record ForeignKinds (s low high : ℕ) : Type 0 where
  pub station_high : 256 ≤ s → Reads (record_of s low high) foreign
  -- a minus sign, of minus zero too, an infinity or a not-a-number
  pub low_not_plain : 2047 * 2 ^ 52 ≤ low → Reads (record_of s low high) foreign
  pub high_not_plain : 2047 * 2 ^ 52 ≤ high → Reads (record_of s low high) foreign
  -- finer than 2^-32, as every subnormal is
  pub low_finer : ((x : ℕ) → multiple low ≢ x * 2 ^ 1042) → Reads (record_of s low high) foreign
  pub high_finer : ((x : ℕ) → multiple high ≢ x * 2 ^ 1042) → Reads (record_of s low high) foreign
  pub high_below : multiple high < multiple low → Reads (record_of s low high) foreign
  pub high_level : multiple high ≡ multiple low → multiple low ≢ 0 → Reads (record_of s low high) foreign
