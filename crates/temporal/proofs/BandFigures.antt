-- Plans that share a band, by computation from the definitions: a doubled contact takes two channels, every one of the 255 entries is
-- looked at, and in which order the numbers come.
-- Assumes nothing.
use Prim.Native.Nat.{ℕ}
use mathlib.Core.Path.{◌≡◌, refl}
use mathlib.Core.List.{List, [], ◌∷◌, ◌++◌, map, flat_map}
use lib.ListN.{take, replicate}
use Rattle.temporal.specs.Lists.{from, below, select, any}
use Rattle.temporal.specs.Bytes.{word_at, contact_at, records}
use Rattle.temporal.specs.Cause.{cause, first, unless, plan_causes}
use Rattle.temporal.specs.Cause.{outside, wrong_length, wrong_slot, wrong_ends, is_above, wrong_order, record_causes}
use Rattle.temporal.specs.Outcome.{entered, over}
use Rattle.temporal.specs.Band.{records_in, taken_in, taken_out, over_band, under_band, take_in, take_out}

-- 0 and 1 hear each other in slot 1, and 0 sends to 1 in slot 3
doubled : List ℕ
doubled =
    (0 ∷ 1 ∷ 0 ∷ 0 ∷ 0 ∷ 1 ∷ []) ++ (0 ∷ 1 ∷ 0 ∷ 1 ∷ 0 ∷ 0 ∷ []) ++ (0 ∷ 3 ∷ 0 ∷ 0 ∷ 0 ∷ 1 ∷ [])

-- a table of zeros but for its last entry, slot 255's
last_used : ℕ → List ℕ
last_used x = replicate 254 0 ++ x ∷ []

-- A doubled contact is two records.
two_channels : map (records_in doubled) (0 ∷ 1 ∷ 2 ∷ 3 ∷ 4 ∷ []) ≡ 0 ∷ 2 ∷ 0 ∷ 1 ∷ 0 ∷ []
unfolding doubled from below select word_at contact_at records records_in
two_channels = refl

-- An entry may be c, and not above it; c = 0 takes in a plan without records and no other.
up_to_c :
    map (λ c. (take_in doubled 2 3 c (replicate 255 0)).number) (0 ∷ 1 ∷ 2 ∷ 65535 ∷ []) ++ (take_in [] 2 3 0 (replicate 255 0)).number ∷ [] ≡
    15 ∷ 15 ∷ 0 ∷ 0 ∷ 0 ∷ []
unfolding doubled from below select any word_at contact_at records wrong_length outside wrong_slot wrong_ends is_above wrong_order record_causes plan_causes cause first unless entered records_in over_band take_in flat_map
up_to_c = refl

-- In and out again.
in_and_out :
    take 4 (take_in doubled 2 3 2 (replicate 255 0)).buffers ∷
    take 4 (take_out doubled 2 3 (take_in doubled 2 3 2 (replicate 255 0)).buffers).buffers ∷ [] ≡
    (2 ∷ 0 ∷ 1 ∷ 0 ∷ []) ∷ (0 ∷ 0 ∷ 0 ∷ 0 ∷ []) ∷ []
unfolding doubled from below select any word_at contact_at records wrong_length outside wrong_slot wrong_ends is_above wrong_order record_causes plan_causes cause first unless entered over records_in over_band under_band taken_in taken_out take_in take_out flat_map
in_and_out = refl

-- Slot 255 is looked at too, though the plan ends with slot 3; a sum past 65,535 is above every c; 16 where there are fewer records than
-- are taken out; 8 before 15 and 16, and 1 to 5 before 8.
every_entry :
    map (λ x. (take_in doubled 2 3 2 (last_used x)).number) (2 ∷ 3 ∷ []) ∷
    map (λ x. (take_in doubled 2 3 65535 (x ∷ last_used 0)).number) (65533 ∷ 65534 ∷ []) ∷
    map (λ x. (take_out doubled 2 3 (x ∷ 0 ∷ 1 ∷ last_used 0)).number) (1 ∷ 2 ∷ []) ∷
    ((take_in doubled 2 3 0 (replicate 254 9)).number ∷ (take_out doubled 2 3 []).number ∷ (take_in doubled 2 2 0 []).number ∷ []) ∷ [] ≡
    (0 ∷ 15 ∷ []) ∷ (0 ∷ 15 ∷ []) ∷ (16 ∷ 0 ∷ []) ∷ (8 ∷ 8 ∷ 3 ∷ []) ∷ []
unfolding doubled last_used from below select any word_at contact_at records wrong_length outside wrong_slot wrong_ends is_above wrong_order record_causes plan_causes cause first unless entered records_in over_band under_band take_in take_out flat_map
every_entry = refl
