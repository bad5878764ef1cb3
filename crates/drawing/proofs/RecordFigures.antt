-- Records by computation from the definitions: the doubles of small shares, the order of bytes, an idle station, and the largest load.
-- Assumes nothing.
use Rattle.std.proofs.Common.{◌≡◌, ◌-◌, ◌*◌, ◌^◌, [], ◌∷◌, map, refl}
use lib.Ieee.{size}
use Rattle.temporal.specs.Drawing.{share_bits, carried, low_bits, high_bits, bytes_of, record_of, drawn_record}
use Rattle.temporal.specs.Drawing.{fraction, exponent, significand, multiple}

-- 2^-32, 1, one and a half, a third rounded down to 2^-32, and the largest of 53 digits
shares : map share_bits (1 ∷ 4294967296 ∷ 6442450944 ∷ 1431655765 ∷ 9007199254740991 ∷ []) ≡
    0x3df0000000000000 ∷ 0x3ff0000000000000 ∷ 0x3ff8000000000000 ∷ 0x3fd5555555400000 ∷ 0x413fffffffffffff ∷ []
unfolding share_bits size
shares = refl

-- what bits are worth, of a double with and without a leading digit: one and a half, and the least positive one
multiples : map multiple (0x3ff8000000000000 ∷ 1 ∷ []) ≡ 6442450944 * 2 ^ 1042 ∷ 1 ∷ []
unfolding multiple significand exponent fraction
multiples = refl

-- station 7 with the doubles 1 and 1.5: the high byte first in all three numbers
seven : drawn_record 7 4294967296 2147483648 ≡ 0 ∷ 7 ∷ 63 ∷ 240 ∷ 0 ∷ 0 ∷ 0 ∷ 0 ∷ 0 ∷ 0 ∷ 63 ∷ 248 ∷ 0 ∷ 0 ∷ 0 ∷ 0 ∷ 0 ∷ 0 ∷ []
unfolding drawn_record record_of bytes_of carried low_bits high_bits share_bits size
seven = refl

-- an idle station has two positive zeros
resting : drawn_record 3 0 0 ≡ 0 ∷ 3 ∷ 0 ∷ 0 ∷ 0 ∷ 0 ∷ 0 ∷ 0 ∷ 0 ∷ 0 ∷ 0 ∷ 0 ∷ 0 ∷ 0 ∷ 0 ∷ 0 ∷ 0 ∷ 0 ∷ []
unfolding drawn_record record_of bytes_of carried low_bits high_bits
resting = refl

-- the largest load with the most pairs: no bit is lost
largest : drawn_record 200 (2 ^ 49 - 1) (2 ^ 49 - 1) ≡
    0 ∷ 200 ∷ 64 ∷ 255 ∷ 255 ∷ 255 ∷ 255 ∷ 255 ∷ 255 ∷ 240 ∷ 65 ∷ 15 ∷ 255 ∷ 255 ∷ 255 ∷ 255 ∷ 255 ∷ 240 ∷ []
unfolding drawn_record record_of bytes_of carried low_bits high_bits share_bits size
largest = refl
