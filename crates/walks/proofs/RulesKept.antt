-- The order of records is transitive, and bytes that keep every rule have no cause of refusal: the other direction of Accepted.
-- Assumes nothing.
use Prim.Native.Nat.{ℕ, zero, suc, ◌+◌, ◌<◌, ◌≤◌}
use native.Mathlib.Omega.{arith}
use native.Mathlib.Decide.{dec_lt}
use mathlib.Core.Path.{◌≡◌, refl, sym, ap, ◌∙◌}
use mathlib.Core.Bool.{true}
use mathlib.Core.List.{List}
use mathlib.Core.Logic.{by_cases}
use borrow.Author.Tests.{ltb-true, lt-ltb}
use Rattle.temporal.specs.Plan.{Contact}
use Rattle.temporal.specs.Bytes.{contact_at, records}
use Rattle.temporal.specs.Cause.{first, is_above, record_causes, plan_fault}
use Rattle.lists.proofs.ListLaws.{not_both}
use Rattle.walks.proofs.CheckLaws.{above_slot, above_sender, below_sender, above_hearer, record_first, record_above}
use Rattle.walks.proofs.CheckLaws.{fault_from, plan_records, records_pass, records_end}
use Rattle.walks.proofs.Accepted.{Accepted}
use Rattle.walks.proofs.PlanLaws.{above_slots}

-- what the order says where the numbers before are the same
module _ (c d : Contact) (above : is_above c d ≡ true) where
  sender_up : c.slot ≡ d.slot → c.sender ≤ d.sender
  sender_up s =
      by_cases (dec_lt d.sender c.sender) (λ h. absurd (not_both above (below_sender c d s h))) (λ h. omega arith)

  hearer_up : c.slot ≡ d.slot → c.sender ≡ d.sender → c.hearer < d.hearer
  hearer_up s a = ltb-true _ _ (sym (above_hearer c d s a) ∙ above)

-- a record above one that is above a third is above the third
pub above_trans : (c d e : Contact) → is_above c d ≡ true → is_above d e ≡ true → is_above c e ≡ true
above_trans c d e low high =
    let first-slots = above_slots c d low in
    let last-slots = above_slots d e high in
    by_cases (dec_lt c.slot e.slot) (above_slot c e)
    (λ slots.
    let first_slot : c.slot ≡ d.slot = omega arith in
    let last_slot_law : d.slot ≡ e.slot = omega arith in
    let first-senders = sender_up c d low first_slot in
    let last-senders = sender_up d e high last_slot_law in
    by_cases (dec_lt c.sender e.sender) (above_sender c e (omega arith))
    (λ senders.
    let first-hearers = hearer_up c d low first_slot (omega arith) in
    let last-hearers = hearer_up d e high last_slot_law (omega arith) in
    above_hearer c e (omega arith) (omega arith) ∙ lt-ltb c.hearer e.hearer (omega arith)))

module _ (bs : List ℕ) (n t : ℕ) (a : Accepted bs n t) where
  no_record_cause : (i : ℕ) → i < records bs → first (record_causes bs n t i) ≡ 0
  no_record_cause zero h =
      let c = a.contact zero h in
      record_first bs n t zero (contact_at bs zero) refl c.from_one c.to_last c.ends c.sender_station c.hearer_station refl
  no_record_cause (suc i) h =
      let c = a.contact (suc i) h in
      record_above bs n t (suc i) (contact_at bs (suc i)) refl c.from_one c.to_last c.ends c.sender_station
      c.hearer_station (contact_at bs i) (ap (contact_at bs) (omega arith)) (a.rising i h)

  -- the records from position i on, k or fewer, have none
  none_from : (k i : ℕ) → records bs ≤ i + k → fault_from bs n t i ≡ 0
  none_from zero i h = records_end bs n t i (omega arith)
  none_from (suc k) i h =
      by_cases (dec_lt i (records bs))
      (λ inside. records_pass bs n t i inside (no_record_cause i inside) ∙ none_from k (i + 1) (omega arith))
      (λ past. records_end bs n t i (omega arith))

  -- bytes that keep every rule have no cause of refusal
  pub rules_kept : plan_fault bs n t ≡ 0
  unfolding records
  rules_kept =
      let some_station = a.some_station in
      let some_slot = a.some_slot in
      let whole = a.whole in
      plan_records bs n t (omega arith) a.stations (omega arith) a.slots (omega arith) a.few ∙
      none_from (records bs) 0 (omega arith)
