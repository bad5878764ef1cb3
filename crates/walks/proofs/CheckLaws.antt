-- The first cause of a record, and of a plan from a record on, from facts about numbers: what a check of a plan rests on.
-- Assumes nothing.
use Prim.Native.Nat.{ℕ, suc, ◌+◌, ◌-◌, ◌/◌, ◌%◌, ◌≤◌, ◌<◌}
use native.Mathlib.Omega.{arith}
use native.Mathlib.Numerals.{add-one}
use mathlib.Core.Path.{◌≡◌, refl, ap, ◌∙◌}
use mathlib.Core.Bool.{Bool, true, false, not, ◌&&◌}
use mathlib.Core.List.{List, [], ◌∷◌, ◌++◌, flat_map}
use mathlib.Core.Logic.{◌≢◌}
use borrow.Author.Tests.{lt-ltb, le-ltb, le-leb, lt-leb, eq-eqb, ne_eqb}
use lib.Dec.{ltb}
use lib.ListN.{length}
use Rattle.temporal.specs.Lists.{from, below}
use Rattle.temporal.specs.Plan.{Contact}
use Rattle.temporal.specs.Bytes.{contact_at, records}
use Rattle.temporal.specs.Cause.{
  cause,
  first,
  outside,
  wrong_length,
  wrong_slot,
  wrong_ends,
  is_above,
  wrong_order,
  record_causes,
  plan_causes,
  plan_fault,
}
use Rattle.temporal.proofs.CauseLaws.{first_true, first_false, first_append_none, first_append_some}

-- ---- one record above another

module _ (c d : Contact) where
  pub above_slot : c.slot < d.slot → is_above c d ≡ true
  unfolding is_above
  above_slot h = rw (lt-ltb c.slot d.slot h)

  pub below_slot : d.slot < c.slot → is_above c d ≡ false
  unfolding is_above
  below_slot h = rw (le-ltb c.slot d.slot (omega arith), ne_eqb c.slot d.slot (omega arith))

  pub above_sender : c.slot ≡ d.slot → c.sender < d.sender → is_above c d ≡ true
  unfolding is_above
  above_sender s h =
      rw (le-ltb c.slot d.slot (omega arith), eq-eqb c.slot d.slot s, lt-ltb c.sender d.sender h)

  pub below_sender : c.slot ≡ d.slot → d.sender < c.sender → is_above c d ≡ false
  unfolding is_above
  below_sender s h =
      rw (
        le-ltb c.slot d.slot (omega arith),
        eq-eqb c.slot d.slot s,
        le-ltb c.sender d.sender (omega arith),
        ne_eqb c.sender d.sender (omega arith),
      )

  pub above_hearer : c.slot ≡ d.slot → c.sender ≡ d.sender → is_above c d ≡ ltb c.hearer d.hearer
  unfolding is_above
  above_hearer s h =
      rw (
        le-ltb c.slot d.slot (omega arith),
        eq-eqb c.slot d.slot s,
        le-ltb c.sender d.sender (omega arith),
        eq-eqb c.sender d.sender h,
      )

-- ---- one record's tests

slot_zero : (t : ℕ) (c : Contact) → c.slot ≡ 0 → wrong_slot t c ≡ true
unfolding wrong_slot
slot_zero t c h = rw (eq-eqb c.slot 0 h)

slot_high : (t : ℕ) (c : Contact) → t < c.slot → wrong_slot t c ≡ true
unfolding wrong_slot
slot_high t c h = rw (ne_eqb c.slot 0 (omega arith), lt-ltb t c.slot h)

slot_within : (t : ℕ) (c : Contact) → 0 < c.slot → c.slot ≤ t → wrong_slot t c ≡ false
unfolding wrong_slot
slot_within t c low high = rw (ne_eqb c.slot 0 (omega arith), le-ltb t c.slot high)

ends_same : (n : ℕ) (c : Contact) → c.sender ≡ c.hearer → wrong_ends n c ≡ true
unfolding wrong_ends
ends_same n c h = rw (eq-eqb c.sender c.hearer h)

sender_high : (n : ℕ) (c : Contact) → c.sender ≢ c.hearer → n ≤ c.sender → wrong_ends n c ≡ true
unfolding wrong_ends
sender_high n c apart h = rw (ne_eqb c.sender c.hearer apart, le-leb n c.sender h)

hearer_high : (n : ℕ) (c : Contact) → c.sender ≢ c.hearer → c.sender < n → n ≤ c.hearer → wrong_ends n c ≡ true
unfolding wrong_ends
hearer_high n c apart low h =
    rw (ne_eqb c.sender c.hearer apart, lt-leb n c.sender low, le-leb n c.hearer h)

ends_within : (n : ℕ) (c : Contact) → c.sender ≢ c.hearer → c.sender < n → c.hearer < n → wrong_ends n c ≡ false
unfolding wrong_ends
ends_within n c apart sender hearer =
    rw (ne_eqb c.sender c.hearer apart, lt-leb n c.sender sender, lt-leb n c.hearer hearer)

-- ---- the first cause of the record at i, which is the contact c

module _ (bs : List ℕ) (n t i : ℕ) (c : Contact) (at : c ≡ contact_at bs i) where
  pub record_slot_zero : c.slot ≡ 0 → first (record_causes bs n t i) ≡ 3
  unfolding record_causes
  record_slot_zero h = first_true 2 _ _ (rw (← at) (slot_zero t c h))

  pub record_slot_high : t < c.slot → first (record_causes bs n t i) ≡ 3
  unfolding record_causes
  record_slot_high h = first_true 2 _ _ (rw (← at) (slot_high t c h))

  module _ (low : 0 < c.slot) (high : c.slot ≤ t) where
    pub record_ends_same : c.sender ≡ c.hearer → first (record_causes bs n t i) ≡ 4
    unfolding record_causes
    record_ends_same h =
        first_false 3 _ _ (rw (← at) (slot_within t c low high)) ∙ first_true 3 _ _ (rw (← at) (ends_same n c h))

    pub record_sender_high : c.sender ≢ c.hearer → n ≤ c.sender → first (record_causes bs n t i) ≡ 4
    unfolding record_causes
    record_sender_high apart h =
        first_false 3 _ _ (rw (← at) (slot_within t c low high)) ∙ first_true 3 _ _ (rw (← at) (sender_high n c apart h))

    pub record_hearer_high : c.sender ≢ c.hearer → c.sender < n → n ≤ c.hearer → first (record_causes bs n t i) ≡ 4
    unfolding record_causes
    record_hearer_high apart sender h =
        first_false 3 _ _ (rw (← at) (slot_within t c low high)) ∙
        first_true 3 _ _ (rw (← at) (hearer_high n c apart sender h))

    module _ (apart : c.sender ≢ c.hearer) (sender : c.sender < n) (hearer : c.hearer < n) where
      pub record_order : first (record_causes bs n t i) ≡ first (cause 5 (wrong_order bs i) ∷ [])
      unfolding record_causes
      record_order =
          first_false 3 _ _ (rw (← at) (slot_within t c low high)) ∙
          first_false 4 _ _ (rw (← at) (ends_within n c apart sender hearer))

      pub record_first : i ≡ 0 → first (record_causes bs n t i) ≡ 0
      unfolding wrong_order first
      record_first h = record_order ∙ first_false 5 _ [] (rw h)

      pub record_above : (b : Contact) → b ≡ contact_at bs (i - 1) → is_above b c ≡ true → first (record_causes bs n t i) ≡ 0
      unfolding wrong_order first
      record_above b before h =
          record_order ∙ first_false 5 _ [] (rw (← before, ← at, h) (and_not_true (ltb 0 i)))
        where
          and_not_true : (x : Bool) → (x && not true) ≡ false
          and_not_true true = refl
          and_not_true false = refl

      pub record_not_above :
          (b : Contact) → b ≡ contact_at bs (i - 1) → 0 < i → is_above b c ≡ false → first (record_causes bs n t i) ≡ 5
      unfolding wrong_order
      record_not_above b before later h =
          record_order ∙ first_true 4 _ _ (rw (← before, ← at, h, lt-ltb 0 i later))

-- ---- the first cause of a plan

-- the first cause of the records from position i on
unfoldable pub fault_from : List ℕ → ℕ → ℕ → ℕ → ℕ
fault_from bs n t i = first (flat_map (record_causes bs n t) (from i (records bs - i)))

module _ (bs : List ℕ) (n t : ℕ) where
  pub plan_no_station : n ≡ 0 → plan_fault bs n t ≡ 1
  unfolding plan_fault plan_causes outside
  plan_no_station h = first_true 0 _ _ (rw (eq-eqb n 0 h))

  pub plan_many_stations : 256 < n → plan_fault bs n t ≡ 1
  unfolding plan_fault plan_causes outside
  plan_many_stations h = first_true 0 _ _ (rw (ne_eqb n 0 (omega arith), lt-ltb 256 n h))

  module _ (some_station : n ≢ 0) (stations : n ≤ 256) where
    pub plan_no_slot : t ≡ 0 → plan_fault bs n t ≡ 1
    unfolding plan_fault plan_causes outside
    plan_no_slot h = first_true 0 _ _ (rw (ne_eqb n 0 some_station, le-ltb 256 n stations, eq-eqb t 0 h))

    pub plan_many_slots : 255 < t → plan_fault bs n t ≡ 1
    unfolding plan_fault plan_causes outside
    plan_many_slots h =
        first_true 0 _ _
        (rw (ne_eqb n 0 some_station, le-ltb 256 n stations, ne_eqb t 0 (omega arith), lt-ltb 255 t h))

    module _ (some_slot : t ≢ 0) (slots : t ≤ 255) where
      within : outside n t ≡ false
      unfolding outside
      within = rw (ne_eqb n 0 some_station, le-ltb 256 n stations, ne_eqb t 0 some_slot, le-ltb 255 t slots)

      pub plan_part_record : length bs % 6 ≢ 0 → plan_fault bs n t ≡ 2
      unfolding plan_fault plan_causes wrong_length
      plan_part_record h = first_false 1 _ _ within ∙ first_true 1 _ _ (rw (ne_eqb (length bs % 6) 0 h))

      module _ (whole : length bs % 6 ≡ 0) where
        pub plan_many_records : 8192 < length bs / 6 → plan_fault bs n t ≡ 2
        unfolding plan_fault plan_causes wrong_length records
        plan_many_records h =
            first_false 1 _ _ within ∙
            first_true 1 _ _ (rw (eq-eqb (length bs % 6) 0 whole, lt-ltb 8192 (length bs / 6) h))

        -- with 1 and 2 excluded, the records decide
        pub plan_records : length bs / 6 ≤ 8192 → plan_fault bs n t ≡ fault_from bs n t 0
        unfolding plan_fault plan_causes wrong_length records below fault_from
        plan_records h =
            first_false 1 _ _ within ∙
            first_false 2 _ _ (rw (eq-eqb (length bs % 6) 0 whole, le-ltb 8192 (length bs / 6) h)) ∙
            ap (λ k. first (flat_map (record_causes bs n t) (from 0 k))) (same_number (length bs / 6))
          where
            same_number : (k : ℕ) → k ≡ k - 0
            same_number k = omega arith

  from_here : (i : ℕ) → i < records bs →
      fault_from bs n t i ≡ first (record_causes bs n t i ++ flat_map (record_causes bs n t) (from (i + 1) (records bs - (i + 1))))
  unfolding fault_from from flat_map
  from_here i h =
      let one_more : records bs - i ≡ suc (records bs - suc i) = omega arith in
      rw (one_more, add-one i)

  -- a record without a cause is passed over
  pub records_pass :
      (i : ℕ) → i < records bs → first (record_causes bs n t i) ≡ 0 → fault_from bs n t i ≡ fault_from bs n t (i + 1)
  unfolding fault_from
  records_pass i h none = from_here i h ∙ first_append_none _ _ none

  -- a record with a cause decides
  pub records_stop :
      (i : ℕ) → i < records bs → 0 < first (record_causes bs n t i) → fault_from bs n t i ≡ first (record_causes bs n t i)
  records_stop i h some = from_here i h ∙ first_append_some _ _ some

  -- past the last record there is no cause
  pub records_end : (i : ℕ) → records bs ≤ i → fault_from bs n t i ≡ 0
  unfolding fault_from from flat_map first
  records_end i h = let none : records bs - i ≡ 0 = omega arith in rw none
