-- No cause of a plan holds exactly where the plan is within the limits. Assumes nothing.
use Prim.Native.Nat.{ℕ, zero, suc, ◌+◌, ◌-◌, ◌≤◌, ◌<◌}
use native.Mathlib.Omega.{arith}
use native.Mathlib.Numerals.{add-one}
use mathlib.Core.Path.{◌≡◌, refl, ap, ◌∙◌}
use mathlib.Core.Bool.{true, and-eq-true_iff}
use mathlib.Core.List.{List, flat_map}
use mathlib.Core.Logic.{inl, inr, ⊎_elim, ◌↔◌}
use borrow.Author.Tests.{ltb-true, eqb-true, lt-ltb}
use lib.Dec.{ltb, eqb}
use Rattle.temporal.specs.Lists.{from}
use Rattle.temporal.specs.Plan.{Contact}
use Rattle.temporal.specs.Bytes.{contact_at, records}
use Rattle.temporal.specs.Cause.{first, is_above, record_causes, plan_fault}
use Rattle.temporal.proofs.CauseLaws.{first_append_none}
use Rattle.walks.proofs.CheckLaws.{
  above_slot,
  above_sender,
  above_hearer,
  record_first,
  record_above,
  fault_from,
  plan_records,
}
use Rattle.lists.proofs.ListLaws.{true_or_false}
use Rattle.walks.proofs.Accepted.{Accepted, accepted}
use Rattle.demands.specs.Limits.{Above, WithinLimits}

-- the test of the order is the order
above_from : (c d : Contact) → is_above c d ≡ true → Above c d
unfolding is_above Above
above_from c d e =
    ⊎_elim
    (λ slot. inl (ltb-true _ _ slot))
    (λ not-slot.
    let same = (and-eq-true_iff (eqb c.slot d.slot) _).0 (rw not-slot at e) in
    inr (
      eqb-true _ _ same.0,
      ⊎_elim
          (λ a. inl (ltb-true _ _ a))
          (λ not_a.
          let ends = (and-eq-true_iff (eqb c.sender d.sender) _).0 (rw not_a at same.1) in
          inr (eqb-true _ _ ends.0, ltb-true _ _ ends.1))
          (true_or_false (ltb c.sender d.sender)),
    ))
    (true_or_false (ltb c.slot d.slot))

above_to : (c d : Contact) → Above c d → is_above c d ≡ true
unfolding Above
above_to c d (inl slot) = above_slot c d slot
above_to c d (inr (same, inl a)) = above_sender c d same a
above_to c d (inr (same, inr (ends, b))) = above_hearer c d same ends ∙ lt-ltb c.hearer d.hearer b

-- where none of the records from i on has a cause, there is none
none_from : (f : ℕ → List ℕ) (i k : ℕ) → ((j : ℕ) → i ≤ j → j < i + k → first (f j) ≡ 0) → first (flat_map f (from i k)) ≡ 0
unfolding from flat_map first
none_from f i zero each = refl
none_from f i (suc k) each =
    first_append_none (f i) (flat_map f (from (suc i) k)) (each i (omega arith) (omega arith)) ∙
    none_from f (suc i) k (λ j low high. each j (omega arith) (omega arith))

module _ (bs : List ℕ) (n t : ℕ) where
  within_accepted : Accepted bs n t → WithinLimits bs n t
  within_accepted a =
      record {
        stations = (a.some_station, a.stations);
        slots = (a.some_slot, a.slots);
        whole = let whole = a.whole in omega arith;
        few = a.few;
        slot = λ i h. ((a.contact i h).from_one, (a.contact i h).to_last);
        ends = λ i h. ((a.contact i h).ends, ((a.contact i h).sender_station, (a.contact i h).hearer_station));
        order = λ i h. rw (add-one i) (above_from _ _ (a.rising i (omega arith)));
      }

  module _ (w : WithinLimits bs n t) where
    no_record_cause : (i : ℕ) → i < records bs → first (record_causes bs n t i) ≡ 0
    no_record_cause zero h =
        record_first bs n t zero (contact_at bs zero) refl (w.slot zero h).0 (w.slot zero h).1
        (w.ends zero h).0 (w.ends zero h).1.0 (w.ends zero h).1.1 refl
    no_record_cause (suc i) h =
        record_above bs n t (suc i) (contact_at bs (suc i)) refl (w.slot (suc i) h).0 (w.slot (suc i) h).1
        (w.ends (suc i) h).0 (w.ends (suc i) h).1.0 (w.ends (suc i) h).1.1 (contact_at bs i) (ap (contact_at bs) (omega arith))
        (above_to _ _ (rw (add-one i) at (w.order i (omega arith))))

    no_cause_within : plan_fault bs n t ≡ 0
    unfolding records fault_from
    no_cause_within =
        let whole = w.whole in
        plan_records bs n t (let h = w.stations.0 in omega arith) w.stations.1
        (let h = w.slots.0 in omega arith) w.slots.1 (omega arith) w.few ∙
        none_from (record_causes bs n t) 0 (records bs - 0) (λ j low high. no_record_cause j (omega arith))

  -- no cause of a plan holds exactly where the plan is within the limits
  pub within_limits : (plan_fault bs n t ≡ 0) ↔ WithinLimits bs n t
  within_limits = (λ e. within_accepted (accepted bs n t e), no_cause_within)
