-- A depth for a plan is one for the plan without one of its records. Assumes nothing.
use Rattle.std.proofs.Common.{◌≡◌, ℕ, zero, suc, ◌+◌, ◌<◌, ◌≤◌, cond, eqb, List, sym, ap, subst, add-one, arith}
use native.Mathlib.Decide.{dec_lt}
use mathlib.Core.Logic.{by_cases}
use Rattle.temporal.specs.Bytes.{contact_at, records}
use Rattle.temporal.specs.Cause.{plan_fault}
use Rattle.temporal.specs.Struck.{lacking_record, position_with}
use Rattle.walks.proofs.Accepted.{accepted}
use Rattle.walks.proofs.LackingPositions.{position_before, position_after}
use Rattle.walks.proofs.LackingLaws.{lacking_none, lacking_records, lacking_contact}
use Rattle.stale.specs.Depth.{slot_before, slot_load, Deep, DepthOf}
use Rattle.stale.proofs.SpreadLaws.{spread_less}
use Rattle.stale.proofs.DepthLaws.{slot_none, slot_suc, rises}

module _ (bs : List ℕ) (i x : ℕ) where
  -- a position's successor stands no further back than the next position
  next_position : (j : ℕ) → position_with i j + 1 ≤ position_with i (suc j)
  next_position j =
      by_cases (dec_lt (suc j) i)
      (λ h. let a = position_before i j (omega arith) in let b = position_before i (suc j) h in omega arith)
      (λ h.
      let b = position_after i (suc j) (omega arith) in
      by_cases (dec_lt j i)
      (λ x. let a = position_before i j x in omega arith) (λ x. let a = position_after i j (omega arith) in omega arith))

  -- no more of the first records are of the slot without the record
  slot_lacking : (j : ℕ) → slot_before (lacking_record bs i) x j ≤ slot_before bs x (position_with i j)
  slot_lacking zero = let none = slot_none (lacking_record bs i) x in omega arith
  slot_lacking (suc j) =
      let less = slot_lacking j in
      let here = slot_suc (lacking_record bs i) x j in
      let there = slot_suc bs x (position_with i j) in
      let same : ◌≡◌ {A = ℕ} (cond (eqb (contact_at (lacking_record bs i) j).slot x) 1 0)
      (cond (eqb (contact_at bs (position_with i j)).slot x) 1 0) =
      ap (λ c. cond (eqb c.slot x) 1 0) (lacking_contact bs i j) in
      let more = rises bs x (position_with i j + 1) (position_with i (suc j)) (next_position j) in
      let step : slot_before (lacking_record bs i) x (suc j) ≡ slot_before (lacking_record bs i) x (j + 1) = rw add-one in
      omega arith

  slot_fewer : i < records bs → slot_before (lacking_record bs i) x (records (lacking_record bs i)) ≤ slot_before bs x (records bs)
  slot_fewer inside =
      let size = lacking_records bs i inside in
      let last = position_after i (records (lacking_record bs i)) (omega arith) in
      let all : position_with i (records (lacking_record bs i)) ≡ records bs = omega arith in
      let less = slot_lacking (records (lacking_record bs i)) in
      subst (λ k. slot_before (lacking_record bs i) x (records (lacking_record bs i)) ≤ slot_before bs x k) all less

  load_fewer : (n : ℕ) → i < records bs → slot_load (lacking_record bs i) n x ≤ slot_load bs n x
  unfolding slot_load
  load_fewer n inside = let less = slot_fewer inside in omega arith

module _ (bs : List ℕ) (n t h : ℕ) (ok : plan_fault bs n t ≡ 0) (i : ℕ) where
  pub deep_lacking : (d : ℕ) → Deep bs n h d → Deep (lacking_record bs i) n h d
  unfolding records
  deep_lacking d (some, fits) =
      by_cases (dec_lt i (records bs))
      (λ inside. (some, λ u. omega (arith, fits u, spread_less h u (λ x. load_fewer bs i x n inside))))
      (λ past.
      let whole = (accepted bs n t ok).whole in
      subst (λ l. Deep l n h d) (sym (lacking_none bs i (omega arith))) (some, fits))

  pub depth_lacking : (old new : List ℕ) (d : ℕ) → DepthOf bs n h old new d → DepthOf (lacking_record bs i) n h old new d
  depth_lacking old new d x =
      record { deep = deep_lacking d x.deep; most = x.most; beyond = x.beyond; same_length = x.same_length }
