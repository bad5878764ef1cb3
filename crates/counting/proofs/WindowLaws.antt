-- What a contact in slot u may follow, slot by slot: the start, and the appearances of the slots u - h to u - g, the window. All from the
-- start of a source s, under a permission g.
-- Assumes nothing.
use Prim.Native.Nat.{ℕ, zero, suc, ◌+◌, ◌-◌, ◌≤◌, ◌<◌}
use mathlib.Core.Path.{◌≡◌, refl, sym, ap, ap₂, ◌∙◌}
use mathlib.Core.Bool.{Bool, true, false, cond, ◌&&◌}
use mathlib.Core.Logic.{◌⊎◌, inl, inr, ⊎_elim, ◌≢◌, by_cases}
use native.Mathlib.Omega.{arith}
use native.Mathlib.Decide.{dec_le, ℕ_discrete}
use borrow.Author.Tests.{eq-eqb, ne_eqb, le-leb, lt-leb}
use lib.Dec.{leb, eqb}
use Rattle.temporal.specs.Plan.{Plan, Appearance, start, may_follow, window_first, window_end}
use Rattle.temporal.specs.Walk.{is_at}
use Rattle.temporal.specs.Foremost.{arrives_by}
use Rattle.lists.proofs.ListLaws.{not_true_false}
use Rattle.walks.proofs.RuleLaws.{InTime, follows_start, follows_intro, follows_inv}
use Rattle.counting.proofs.Weights.{total, total_ext, total_add, total_none}
use Rattle.counting.proofs.Recurrence.{at_appearance, before, heard}

-- the walks to v in m slots from slot t on, by hops
unfoldable pub in_slots : Plan → ℕ → (ℕ → Bool) → ℕ → ℕ → ℕ → ℕ → ℕ
in_slots p s g v t zero k = 0
in_slots p s g v t (suc m) k = total p g (start s) (at_appearance v t) k + in_slots p s g v (t + 1) m k

-- 1 at the appearances of v in m slots from slot t on
unfoldable slots_weight : ℕ → ℕ → ℕ → Appearance → ℕ
slots_weight v t zero y = 0
slots_weight v t (suc m) y = at_appearance v t y + slots_weight v (t + 1) m y

-- ---- the weights

module _ (v : ℕ) (y : Appearance) where
  at_other_station : y.station ≢ v → (t : ℕ) → at_appearance v t y ≡ 0
  unfolding at_appearance
  at_other_station other t = rw (ne_eqb y.station v other)

  at_other_slot : (t : ℕ) → y.slot ≢ t → at_appearance v t y ≡ 0
  unfolding at_appearance
  at_other_slot t other = go (eqb y.station v) (eqb y.slot t) (ne_eqb y.slot t other)
    where
      go : (a b : Bool) → b ≡ false → ◌≡◌ {A = ℕ} (cond (a && b) 1 0) 0
      go true b e = rw e
      go false b e = refl

  at_itself : y.station ≡ v → (t : ℕ) → y.slot ≡ t → at_appearance v t y ≡ 1
  unfolding at_appearance
  at_itself here t slot = rw (eq-eqb y.station v here, eq-eqb y.slot t slot)

  weight_elsewhere : y.station ≢ v → (t m : ℕ) → slots_weight v t m y ≡ 0
  unfolding slots_weight
  weight_elsewhere other t zero = refl
  weight_elsewhere other t (suc m) = ap₂ ◌+◌ (at_other_station other t) (weight_elsewhere other (t + 1) m)

  weight_outside : (t m : ℕ) → (y.slot < t) ⊎ (t + m ≤ y.slot) → slots_weight v t m y ≡ 0
  unfolding slots_weight
  weight_outside t zero out = refl
  weight_outside t (suc m) out =
      ap₂ ◌+◌ (at_other_slot t (λ e. ⊎_elim (λ h. omega arith) (λ h. omega arith) out))
      (weight_outside (t + 1) m (⊎_elim (λ h. inl (omega arith)) (λ h. inr (omega arith)) out))

  weight_inside : y.station ≡ v → (t m : ℕ) → t ≤ y.slot → y.slot < t + m → slots_weight v t m y ≡ 1
  unfolding slots_weight
  weight_inside here t zero low high = absurd (omega arith)
  weight_inside here t (suc m) low high =
      by_cases (ℕ_discrete y.slot t)
      (λ e. ap₂ ◌+◌ (at_itself here t e) (weight_outside (t + 1) m (inl (omega arith))))
      (λ ne. ap₂ ◌+◌ (at_other_slot t ne) (weight_inside here (t + 1) m (omega arith) (omega arith)))

-- ---- the window

module _ (p : Plan) (turns : 0 < p.terms.turnaround) (v u : ℕ) (low : 0 < u) where
  first : ℕ
  first = window_first p.terms.keeping u

  size : ℕ
  size = window_end p.terms.turnaround u - window_first p.terms.keeping u

  before_elsewhere : (y : Appearance) → y.station ≢ v → before p v u y ≡ 0
  unfolding before
  before_elsewhere y other = rw (ne_eqb y.station v other)

  before_may : (y : Appearance) → y.station ≡ v → may_follow p y.slot u ≡ true → before p v u y ≡ 1
  unfolding before
  before_may y here f = rw (eq-eqb y.station v here, f)

  before_not : (y : Appearance) → may_follow p y.slot u ≡ false → before p v u y ≡ 0
  unfolding before
  before_not y f = go (is_at v y) (may_follow p y.slot u) f
    where
      go : (a b : Bool) → b ≡ false → ◌≡◌ {A = ℕ} (cond (a && b) 1 0) 0
      go true b e = rw e
      go false b e = refl

  -- a slot after the start may be followed exactly if it lies in the window
  follows_inside :
      (t : ℕ) → t ≢ 0 → window_first p.terms.keeping u ≤ t →
      t < window_first p.terms.keeping u + (window_end p.terms.turnaround u - window_first p.terms.keeping u) →
      may_follow p t u ≡ true
  follows_inside t other from to =
      follows_intro p t u (omega arith) (inr (record { turned = omega arith; fresh = omega arith }))

  follows_outside :
      (t : ℕ) → t ≢ 0 →
      (t < window_first p.terms.keeping u) ⊎
      (window_first p.terms.keeping u + (window_end p.terms.turnaround u - window_first p.terms.keeping u) ≤ t) →
      may_follow p t u ≡ false
  follows_outside t other out =
      not_true_false (may_follow p t u) (λ e.
      ⊎_elim (λ start-slot. other start-slot)
      (λ (w : InTime p t u).
      let turned = w.turned in
      let fresh = w.fresh in
      ⊎_elim (λ h. omega arith) (λ h. omega arith) out)
      (follows_inv p t u e).1)

  -- the weight of what may be followed is that of the start and of the window
  before_slots :
      (y : Appearance) → before p v u y ≡ at_appearance v 0 y + slots_weight v first size y
  unfolding first size
  before_slots y =
      by_cases (ℕ_discrete y.station v)
      (λ here.
      by_cases (ℕ_discrete y.slot 0)
      (λ zero_slot.
      before_may y here (rw zero_slot (follows_start p u low)) ∙
      sym (ap₂ ◌+◌ (at_itself v y here 0 zero_slot) (weight_outside v y first size (inl (omega arith)))))
      (λ later.
      by_cases (dec_le (window_first p.terms.keeping u) y.slot)
      (λ from.
      by_cases
      (dec_le (window_first p.terms.keeping u + (window_end p.terms.turnaround u - window_first p.terms.keeping u)) y.slot)
      (λ past. outside y later (inr past))
      (λ to.
      before_may y here (follows_inside y.slot later from (omega arith)) ∙
      sym (ap₂ ◌+◌ (at_other_slot v y 0 later) (weight_inside v y here first size from (omega arith)))))
      (λ soon. outside y later (inl (omega arith)))))
      (λ other.
      before_elsewhere y other ∙ sym (ap₂ ◌+◌ (at_other_station v y other 0) (weight_elsewhere v y other first size)))
    where
      outside :
          (y : Appearance) → y.slot ≢ 0 →
          (y.slot < window_first p.terms.keeping u) ⊎
          (window_first p.terms.keeping u + (window_end p.terms.turnaround u - window_first p.terms.keeping u) ≤ y.slot) →
          before p v u y ≡ at_appearance v 0 y + slots_weight v first size y
      outside y later out =
          before_not y (follows_outside y.slot later out) ∙
          sym (ap₂ ◌+◌ (at_other_slot v y 0 later) (weight_outside v y first size out))

module _ (p : Plan) (s : ℕ) (g : ℕ → Bool) where
  total_slots : (v t m k : ℕ) → total p g (start s) (slots_weight v t m) k ≡ in_slots p s g v t m k
  unfolding slots_weight in_slots
  total_slots v t zero k = total_none p g (λ y. refl) (start s) k
  total_slots v t (suc m) k =
      total_add p g (at_appearance v t) (slots_weight v (t + 1) m) (start s) k ∙
      ap (λ n. total p g (start s) (at_appearance v t) k + n) (total_slots v (t + 1) m k)

  -- The walks that a contact in slot u may follow at v are those at the start and those in the window.
  pub before_window :
      (v u : ℕ) → 0 < p.terms.turnaround → 0 < u → (k : ℕ) →
      total p g (start s) (before p v u) k ≡
      total p g (start s) (at_appearance v 0) k +
      in_slots p s g v (window_first p.terms.keeping u)
      (window_end p.terms.turnaround u - window_first p.terms.keeping u) k
  unfolding first size
  before_window v u turns low k =
      total_ext p g (before_slots p turns v u low) (start s) k ∙
      total_add p g (at_appearance v 0) (slots_weight v (first p turns v u low) (size p turns v u low)) (start s) k ∙
      ap (λ n. total p g (start s) (at_appearance v 0) k + n) (total_slots v (first p turns v u low) (size p turns v u low) k)

  -- those by slot e are those in the slots from 0 to e
  pub heard_slots : (v e k : ℕ) → total p g (start s) (heard v e) k ≡ in_slots p s g v 0 (e + 1) k
  unfolding arrives_by
  heard_slots v e k = total_ext p g weights (start s) k ∙ total_slots v 0 (e + 1) k
    where
      weights : (y : Appearance) → heard v e y ≡ slots_weight v 0 (e + 1) y
      weights y =
          by_cases (ℕ_discrete y.station v)
          (λ here.
          by_cases (dec_le y.slot e)
          (λ by.
          ap₂ (λ a b. cond (a && b) 1 0) (eq-eqb y.station v here) (le-leb y.slot e by) ∙
          sym (weight_inside v y here 0 (e + 1) (omega arith) (omega arith)))
          (λ past.
          ap₂ (λ a b. cond (a && b) 1 0) (eq-eqb y.station v here) (lt-leb y.slot e (omega arith)) ∙
          sym (weight_outside v y 0 (e + 1) (inr (omega arith)))))
          (λ other.
          ap (λ a. cond (a && leb y.slot e) 1 0) (ne_eqb y.station v other) ∙ sym (weight_elsewhere v y other 0 (e + 1)))
