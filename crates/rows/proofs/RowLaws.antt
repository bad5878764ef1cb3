-- Row's number from comparisons of numbers, and the part that an accepted row has. Assumes nothing.
use Prim.Native.Nat.{ℕ, suc, ◌+◌, ◌-◌, ◌*◌, ◌<◌, ◌≤◌}
use native.Mathlib.Omega.{arith}
use native.Mathlib.Nat.{mul-le-mul_right, suc-mul}
use mathlib.Core.Path.{◌≡◌, refl, ◌∙◌}
use mathlib.Core.Bool.{true, false, ◌||◌}
use mathlib.Core.Logic.{◌≢◌}
use mathlib.Core.List.{List, []}
use borrow.Author.Tests.{lt-ltb, le-ltb, le-leb, lt-leb, ne_eqb, leb-false, ltb-false}
use lib.Dec.{ltb, eqb}
use lib.ListN.{length, take, drop}
use Rattle.temporal.specs.Cause.{first, outside, station_causes}
use Rattle.temporal.specs.Outcome.{row_number, row}
use Rattle.temporal.proofs.CauseLaws.{first_true, first_false, first_head, first_tail, or_false_right}
use Rattle.walks.proofs.EnteredLaws.{unless_some, unless_none}

first_nothing : first [] ≡ 0
unfolding first
first_nothing = refl

module _ (n t v : ℕ) (table : List ℕ) where
  pub row_outside : outside n t ≡ true → row_number n t v table ≡ 1
  unfolding row_number
  row_outside h = first_true 0 _ _ h

  module _ (some_station : n ≢ 0) (stations : n ≤ 256) where
    module _ (some_slot : t ≢ 0) (slots : t ≤ 255) where
      within : outside n t ≡ false
      unfolding outside
      within = rw (ne_eqb n 0 some_station, le-ltb 256 n stations, ne_eqb t 0 some_slot, le-ltb 255 t slots)

      pub row_station : n ≤ v → row_number n t v table ≡ 6
      unfolding row_number station_causes
      row_station h = first_false 1 _ _ within ∙ first_true 5 _ _ (le-leb n v h)

      pub row_short : v < n → length table < n * (t + 1) → row_number n t v table ≡ 8
      unfolding row_number station_causes
      row_short inside h =
          first_false 1 _ _ within ∙ first_false 6 _ _ (lt-leb n v inside) ∙
          first_true 7 _ [] (lt-ltb (length table) (n * (t + 1)) h)

      pub row_accepted : v < n → n * (t + 1) ≤ length table → row_number n t v table ≡ 0
      unfolding row_number station_causes
      row_accepted inside h =
          first_false 1 _ _ within ∙ first_false 6 _ _ (lt-leb n v inside) ∙
          first_false 8 _ [] (le-ltb (length table) (n * (t + 1)) h) ∙ first_nothing

  -- a refused row is empty, an accepted one the station's part
  pub row_refused : 0 < row_number n t v table → row n t v table ≡ []
  unfolding row
  row_refused h = unless_some (row_number n t v table) _ _ h

  pub row_part : row_number n t v table ≡ 0 → row n t v table ≡ take (t + 1) (drop (v * (t + 1)) table)
  unfolding row
  row_part e = unless_none (row_number n t v table) _ _ e

  -- an accepted row lies within the table
  pub row_within : row_number n t v table ≡ 0 → (v < n) × (t ≤ 255) × (n * (t + 1) ≤ length table)
  unfolding row_number station_causes outside
  row_within e =
      let limits = first_head 0 _ _ e in
      let station = first_head 5 _ _ (first_tail 0 _ _ e) in
      let room = first_head 7 _ [] (first_tail 5 _ _ (first_tail 0 _ _ e)) in (
        leb-false n v station,
        ltb-false 255 t (or_false_right (eqb t 0) _ (or_false_right (eqb n 0 || ltb 256 n) _ limits)),
        ltb-false (length table) (n * (t + 1)) room,
      )

-- a station's entries end within the table
pub row_end : (v n width size : ℕ) → v < n → n * width ≤ size → v * width + width ≤ size
row_end v n width size h fits =
    let next : suc v * width ≤ n * width = mul-le-mul_right width h in
    let one_more = suc-mul v width in
    omega arith

-- the length of a part from a start to an end
pub between : (a k : ℕ) → k ≡ (a + k) - a
between a k = omega arith

-- a place of a table, with the bytes before it written first
pub placed : (block offset i : ℕ) → ◌≡◌ {A = ℕ × ℕ} (block, i * 8 + offset) (block, offset + i * 8)
placed block offset i = let same : i * 8 + offset ≡ offset + i * 8 = omega arith in rw same
