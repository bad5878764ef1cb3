-- Causes 2 and 4 at their limits, by computation from the definitions.
-- Assumes nothing.
use Prim.Native.Nat.{ℕ}
use mathlib.Core.Path.{◌≡◌, refl}
use mathlib.Core.Bool.{true, false}
use mathlib.Core.List.{List, [], ◌∷◌}
use lib.ListN.{length}
use Rattle.temporal.specs.Bytes.{records}
use Rattle.temporal.specs.Cause.{wrong_length, wrong_ends}

-- Cause 4: a above b is right, a equal to b is not, and neither is n or more.
pub ends_of_two_stations :
    wrong_ends 2 (record { slot = 1; sender = 1; hearer = 0 }) ∷ wrong_ends 2 (record { slot = 1; sender = 1; hearer = 1 }) ∷
    wrong_ends 2 (record { slot = 1; sender = 2; hearer = 0 }) ∷ wrong_ends 2 (record { slot = 1; sender = 0; hearer = 2 }) ∷ []
    ≡ false ∷ true ∷ true ∷ true ∷ []
unfolding wrong_ends
ends_of_two_stations = refl

-- Cause 2: 8,192 records are no cause, 8,193 are one.
pub most_records : (bs : List ℕ) → length bs ≡ 49152 → wrong_length bs ≡ false
unfolding wrong_length records
most_records bs h = rw h

pub one_record_more : (bs : List ℕ) → length bs ≡ 49158 → wrong_length bs ≡ true
unfolding wrong_length records
one_record_more bs h = rw h
