-- How a pass goes through the records: which are folded in and which are settled in a slot. Assumes nothing.
use Rattle.std.proofs.Common.{◌≡◌, ℕ, suc, ◌+◌, ◌-◌, ◌*◌, ◌<◌, ◌≤◌, true, false, List, length, arith, lt-ltb, eq-eqb}
use native.Mathlib.Decide.{dec_le, ℕ_discrete}
use mathlib.Core.Logic.{by_cases}
use Rattle.temporal.specs.Plan.{Terms}
use Rattle.temporal.specs.Bytes.{contact_at, records}
use Rattle.temporal.specs.Cause.{plan_fault}
use Rattle.walks.proofs.Accepted.{accepted}
use Rattle.walks.proofs.PlanLaws.{slots_sorted}
use Rattle.plan.specs.Record.{in_slot, SlotRecords}
use Rattle.plan.proofs.SlotLaws.{in_slot_inv, in_slot_none}
use Rattle.pass.specs.Sweep.{HearersFit}

-- the records below j are in slots up to u, and those from j on in slots from u on
pub record Position (bs : List ℕ) (u j : ℕ) : Type 0 where
  pub within : j ≤ records bs
  pub done : (i : ℕ) → i < j → (contact_at bs i).slot ≤ u
  pub ahead : (i : ℕ) → j ≤ i → i < records bs → u ≤ (contact_at bs i).slot

-- the records below i are in slots up to c, and those from i on in later ones
pub record Trail (bs : List ℕ) (c i : ℕ) : Type 0 where
  pub within : i ≤ records bs
  pub done : (m : ℕ) → m < i → (contact_at bs m).slot ≤ c
  pub ahead : (m : ℕ) → i ≤ m → m < records bs → c < (contact_at bs m).slot

-- A pass is in slot u: the records from j on are not folded in yet; those from i on are past the slot q before. Past the last slot there are
-- no records.
pub record Moving (bs : List ℕ) (t q u j i : ℕ) : Type 0 where
  pub from_one : 0 < u
  pub last : u ≤ t + q
  pub position : Position bs u j
  pub trail : Trail bs (u - q) i

module _ (bs : List ℕ) (n t : ℕ) (terms : Terms) (ok : plan_fault bs n t ≡ 0) where
  -- where the record at j is not in slot u, and none from there on is in an earlier one, they are all in later ones
  pub later : (u j : ℕ) → ((i : ℕ) → j ≤ i → i < records bs → u ≤ (contact_at bs i).slot) → in_slot bs j u ≡ false
      → (i : ℕ) → j ≤ i → i < records bs → u < (contact_at bs i).slot
  later u j ahead e i from h =
      let up : j + (i - j) ≡ i = omega arith in
      let rise = rw up at (slots_sorted bs n t terms ok j (i - j) (omega arith)) in
      let here = ahead j (omega arith) (omega arith) in
      let other = in_slot_none bs j u e (omega arith) in
      omega arith

  -- past the records of the next slot
  pub trail_next : (c i e : ℕ) → Trail bs c i → SlotRecords bs (suc c) i e → Trail bs (suc c) e
  trail_next c i e x found =
      let f = found.from in
      record {
        within = by_cases (dec_le e i) (λ h. let k = x.within in omega arith)
            (λ more. let (there, slot) = in_slot_inv bs (e - 1) (suc c) (found.here (e - 1) (omega arith) (omega arith)) in omega arith);
        done = λ m h. by_cases (dec_le i m)
            (λ from. let (there, slot) = in_slot_inv bs m (suc c) (found.here m from h) in omega arith)
            (λ before. let k = x.done m (omega arith) in omega arith);
        ahead = later (suc c) e (λ m from h. x.ahead m (omega arith) h) found.past;
      }

  -- at the beginning a pass is in slot 1, at position 0
  pub moving_begun : (q : ℕ) → 0 < q → Moving bs t q 1 0 0
  moving_begun q some =
      let first : 1 - q ≡ 0 = omega arith in
      record {
        from_one = omega arith;
        last = omega arith;
        position = record {
          within = omega arith;
          done = λ i h. absurd (omega arith);
          ahead = λ i from h. ((accepted bs n t ok).contact i h).from_one;
        };
        trail = rw first (record {
          within = omega arith;
          done = λ i h. absurd (omega arith);
          ahead = λ i from h. ((accepted bs n t ok).contact i h).from_one;
        });
      }

  module _ {q u j i : ℕ} (x : Moving bs t q u j i) where
    -- the trailing position lies within the plan
    pub moving_trail : i * 6 ≤ length bs
    moving_trail = let h = x.trail.within in let whole = (accepted bs n t ok).whole in omega arith

    -- a record of the slot is folded in
    pub moving_fold : in_slot bs j u ≡ true → Moving bs t q u (j + 1) i
    moving_fold e =
        let (there, slot) = in_slot_inv bs j u e in
        record {
          from_one = x.from_one;
          last = x.last;
          position = record {
            within = omega arith;
            done = λ m h. by_cases (ℕ_discrete m j) (λ same. rw same (omega arith))
                (λ d. x.position.done m (omega arith));
            ahead = λ m from h. x.position.ahead m (omega arith) h;
          };
          trail = x.trail;
        }

    module _ (e : in_slot bs j u ≡ false) where
      -- the records from j on are in slots past u
      pub moving_ahead : (m : ℕ) → j ≤ m → m < records bs → u < (contact_at bs m).slot
      moving_ahead = later u j x.position.ahead e

      position_next : Position bs (u + 1) j
      position_next =
          record {
            within = x.position.within;
            done = λ m h. let k = x.position.done m h in omega arith;
            ahead = λ m from h. let k = moving_ahead m from h in omega arith;
          }

      -- where what waits is settled in the next slot, the records that are not settled end where those that are not folded in begin
      pub moving_end : q < u + 1 → q ≡ 1 → SlotRecords bs (u + 1 - q) i j
      unfolding in_slot
      moving_end late next =
          let here : u + 1 - q ≡ u = omega arith in
          rw here (record {
            from = by_cases (dec_le i j) (λ h. h)
                (λ more. absurd (let k = x.trail.within in omega (arith, x.trail.done j (omega arith), x.position.ahead j (omega arith) (omega arith))));
            here = λ m from to.
                let inside = x.position.within in
                let slot : (contact_at bs m).slot ≡ u =
                omega (arith, x.trail.ahead m from (omega arith), x.position.done m to, x.from_one) in
                rw (lt-ltb m (records bs) (omega arith), eq-eqb (contact_at bs m).slot u slot);
            past = e;
          })

      -- a slot whose fellow of q slots before is the start: nothing is settled
      pub moving_on : u + 1 ≤ q → u < t + q → Moving bs t q (u + 1) j i
      moving_on early more =
          let same : u + 1 - q ≡ u - q = omega arith in
          record { from_one = omega arith; last = omega arith; position = position_next; trail = rw same x.trail }

      -- the slot u + 1 - q is settled
      module _ (late : q < u + 1) (end : ℕ) (found : SlotRecords bs (u + 1 - q) i end) where
        slot_before_law : u + 1 - q ≡ suc (u - q)
        slot_before_law = omega arith

        -- the records up to the end are in slots up to u + 1 - q
        pub trail_end : Trail bs (suc (u - q)) end
        trail_end = trail_next (u - q) i end x.trail (rw slot_before_law at found)

        -- the hearers of its records can be settled
        pub moving_hearers : HearersFit bs n i end
        moving_hearers m from to =
            let (there, slot) = in_slot_inv bs m (u + 1 - q) (found.here m from to) in
            let whole = (accepted bs n t ok).whole in
            record { inside = omega arith; hearer_station = ((accepted bs n t ok).contact m there).hearer_station }

        pub moving_settle : u < t + q → Moving bs t q (u + 1) j end
        moving_settle more =
            record { from_one = omega arith; last = omega arith; position = position_next; trail = rw slot_before_law trail_end }
