-- The second position of the pass: the records below it lie in slots that are settled, those from it on in later ones. A station that
-- hears none of a slot's records has no walks there.
-- Assumes nothing.
use Prim.Native.Nat.{ℕ, zero, suc, ◌+◌, ◌-◌, ◌<◌, ◌≤◌}
use native.Mathlib.Omega.{arith}
use native.Mathlib.Decide.{dec_le, ℕ_discrete}
use mathlib.Core.Path.{◌≡◌, ap, ◌∙◌}
use mathlib.Core.Bool.{false}
use mathlib.Core.List.{List}
use mathlib.Core.Logic.{◌≢◌, by_cases}
use Rattle.temporal.specs.Plan.{Terms}
use Rattle.temporal.specs.Bytes.{contact_at, records, plan_of}
use Rattle.temporal.specs.Cause.{plan_fault}
use Rattle.walks.proofs.Accepted.{accepted}
use Rattle.walks.proofs.PlanLaws.{contact_there, contacts_length, slots_sorted}
use Rattle.counting.proofs.Weights.{everywhere}
use Rattle.counting.proofs.Recurrence.{arrivals, arrivals_zero, arrivals_suc, arrivals_all, inflow, inflow_other_slot, inflow_other_station}
use Rattle.plan.specs.Record.{in_slot, SlotRecords}
use Rattle.plan.proofs.SlotLaws.{in_slot_inv, in_slot_none}
use Rattle.reach_lasting.specs.Slot.{hearer_at}
use Rattle.reach_entries.proofs.StateLaws.{reaching, arriving}

-- the records below i are in slots up to c, and those from i on in later ones
pub record Trail (bs : List ℕ) (c i : ℕ) : Type 0 where
  pub within : i ≤ records bs
  pub done : (m : ℕ) → m < i → (contact_at bs m).slot ≤ c
  pub ahead : (m : ℕ) → i ≤ m → m < records bs → c < (contact_at bs m).slot

module _ (bs : List ℕ) (n t : ℕ) (terms : Terms) (ok : plan_fault bs n t ≡ 0) where
  -- at the begin none is settled
  pub trail_begin : Trail bs 0 0
  trail_begin =
      record {
        within = omega arith;
        done = λ m h. absurd (omega arith);
        ahead = λ m low high. ((accepted bs n t ok).contact m high).from_one;
      }

  -- where the record at j is not in slot u, and none from there on is in an earlier one, they are all in later ones
  pub all_later :
      (u j : ℕ) → ((i : ℕ) → j ≤ i → i < records bs → u ≤ (contact_at bs i).slot) → in_slot bs j u ≡ false →
      (i : ℕ) → j ≤ i → i < records bs → u < (contact_at bs i).slot
  all_later u j ahead past i low last =
      let at_least_lem = ahead j (omega arith) (omega arith) in
      let other = in_slot_none bs j u past (omega arith) in
      let same : j + (i - j) ≡ i = omega arith in
      let sorted = rw same at (slots_sorted bs n t terms ok j (i - j) (omega arith)) in
      omega arith

  module _ (c i e : ℕ) (x : Trail bs c i) (found : SlotRecords bs (c + 1) i e) where
    -- past the records of the next slot
    pub trail_next : Trail bs (c + 1) e
    trail_next =
        let f = found.from in
        record {
          within = by_cases (dec_le e i) (λ h. let w = x.within in omega arith)
              (λ more. let (there, slot) = in_slot_inv bs (e - 1) (c + 1) (found.here (e - 1) (omega arith) (omega arith)) in omega arith);
          done = λ m h. by_cases (dec_le i m)
              (λ from. let (there, slot) = in_slot_inv bs m (c + 1) (found.here m from h) in omega arith)
              (λ before. let d = x.done m (omega arith) in omega arith);
          ahead = all_later (c + 1) e (λ m from h. let a = x.ahead m (omega arith) h in omega arith) found.past;
        }

    -- a record of the next slot lies between the two positions
    between : (m : ℕ) → m < records bs → (contact_at bs m).slot ≡ c + 1 → (i ≤ m) × (m < e)
    between m there slot = (
      by_cases (dec_le i m) (λ from. from) (λ before. let d = x.done m (omega arith) in absurd (omega arith)),
      by_cases (dec_le e m) (λ after. let a = trail_next.ahead m after there in absurd (omega arith)) (λ to. omega arith),
    )

    module _ (s v : ℕ) (unheard : (m : ℕ) → i ≤ m → m < e → v ≢ hearer_at bs m) where
      -- the records below k bring nothing to a station that hears none of that slot
      none_heard : (k : ℕ) → k ≤ records bs → (h : ℕ) → arriving bs n t terms s (c + 1) k v h ≡ 0
      none_heard zero low h = arrivals_zero (plan_of bs n t terms) s everywhere v (c + 1) h
      none_heard (suc k) low h =
          let nothing : inflow (plan_of bs n t terms) s everywhere (contact_at bs k) v (c + 1) h ≡ 0 =
          by_cases (ℕ_discrete (contact_at bs k).slot (c + 1))
          (λ slot. let (from, to) = between k (omega arith) slot in
          inflow_other_station (plan_of bs n t terms) s everywhere (contact_at bs k) v (c + 1) h (unheard k from to))
          (inflow_other_slot (plan_of bs n t terms) s everywhere (contact_at bs k) v (c + 1) h) in
          arrivals_suc (plan_of bs n t terms) s everywhere k (contact_there bs n t terms k (omega arith)) v (c + 1) h ∙
          (let before = none_heard k (omega arith) h in omega arith)

      -- so it has no walks there
      pub none_reaching : (h : ℕ) → reaching bs n t terms s v (c + 1) h ≡ 0
      none_reaching h =
          arrivals_all (plan_of bs n t terms) s everywhere v (c + 1) h (omega arith) ∙
          ap (λ k. arrivals (plan_of bs n t terms) s everywhere k v (c + 1) h) (contacts_length bs n t terms) ∙
          none_heard (records bs) (omega arith) h
