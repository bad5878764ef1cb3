-- The laws of the two rules, leads_to and may_follow. Only this file unfolds them: laws of walks cite what stands here.
-- Assumes nothing.
use Prim.Native.Nat.{ℕ, ◌+◌, ◌-◌, ◌≤◌, ◌<◌, min}
use mathlib.Core.Bool.{Bool, true, false, cond, ◌&&◌, ◌||◌, and-eq-true_iff, or-true}
use mathlib.Core.Logic.{◌⊎◌, inl, inr, ⊎_elim, ◌↔◌, ◌≢◌, by_cases}
use mathlib.Core.Option.{Option, none, some}
use mathlib.Core.Path.{◌≡◌, refl, sym, ap}
use native.Mathlib.Decide.{ℕ_discrete}
use native.Mathlib.Omega.{arith}
use borrow.Author.Tests.{ltb-true, ltb-false, lt-ltb, leb-true, leb-false, le-leb, eqb-true, eqb-false, eq-eqb, ne_eqb}
use lib.Dec.{ltb, leb, eqb}
use Rattle.temporal.specs.Plan.{Contact, Plan, leads_to, may_follow}
use Rattle.lists.proofs.ListLaws.{not_true_false}

-- the station from which a contact leads to w: its sender where w is its hearer, else none
unfoldable pub comes_from : Contact → ℕ → Option ℕ
comes_from c w = cond (eqb w c.hearer) (some c.sender) none

-- a number where v is a, else none: it is w exactly where v is a and w is that number
only_there : (a b v w : ℕ) → (◌≡◌ {A = Option ℕ} (cond (eqb v a) (some b) none) (some w)) ↔ ((v ≡ a) × (w ≡ b))
only_there a b v w = go (eqb v a) refl
  where
    go : (c : Bool) → eqb v a ≡ c → (◌≡◌ {A = Option ℕ} (cond c (some b) none) (some w)) ↔ ((v ≡ a) × (w ≡ b))
    go true q = (λ e. (eqb-true v a q, cc), λ h. ap some (sym h.1))
    go false q =
        let not_a : v ≢ a = eqb-false v a q in
        (λ e. absurd (let z : ◌≡◌ {A = ℕ} 0 1 = cc in omega arith), λ h. absurd (not_a h.0))

-- a contact leads from v to w exactly where it comes from v to w
pub leads_comes : (c : Contact) (v w : ℕ) → (leads_to c v ≡ some w) ↔ (comes_from c w ≡ some v)
unfolding leads_to comes_from
leads_comes c v w =
    let there = only_there c.sender c.hearer v w in
    let back = only_there c.hearer c.sender w v in (
      λ e. let h = there.0 e in back.1 (h.1, h.0),
      λ e. let h = back.0 e in there.1 (h.1, h.0),
    )

-- a contact comes to its hearer from its sender
pub comes_to_hearer : (c : Contact) → comes_from c c.hearer ≡ some c.sender
unfolding comes_from
comes_to_hearer c = (only_there c.hearer c.sender c.hearer c.sender).1 (refl, refl)

-- a contact comes to no other station
pub comes_none : (c : Contact) (w : ℕ) → w ≢ c.hearer → comes_from c w ≡ none
unfolding comes_from
comes_none c w other = rw (ne_eqb w c.hearer other)

-- a contact that may follow an appearance is in a later slot
pub follows_later : (p : Plan) (t u : ℕ) → may_follow p t u ≡ true → t < u
unfolding may_follow
follows_later p t u e = ltb-true t u ((and-eq-true_iff (ltb t u) _).0 e).0

-- as many slots lie between as the turnaround asks, and no more than a reading is kept
pub record InTime (p : Plan) (t u : ℕ) : Type 0 where
  pub turned : t + p.terms.turnaround ≤ u
  pub fresh : u ≤ t + p.terms.keeping

-- it does where it is in a later slot, and the start comes before it or it is in time
pub follows_intro : (p : Plan) (t u : ℕ) → t < u → (t ≡ 0) ⊎ InTime p t u → may_follow p t u ≡ true
unfolding may_follow
follows_intro p t u later (inl first) = rw (lt-ltb t u later, eq-eqb t 0 first)
follows_intro p t u later (inr w) =
    rw (lt-ltb t u later, le-leb (t + p.terms.turnaround) u w.turned, le-leb u (t + p.terms.keeping) w.fresh) (or-true (eqb t 0))

-- after the start any slot will do
pub follows_start : (p : Plan) (u : ℕ) → 0 < u → may_follow p 0 u ≡ true
follows_start p u later = follows_intro p 0 u later (inl refl)

-- and in no other case
pub follows_inv : (p : Plan) (t u : ℕ) → may_follow p t u ≡ true → (t < u) × ((t ≡ 0) ⊎ InTime p t u)
unfolding may_follow
follows_inv p t u e =
    let both = (and-eq-true_iff (ltb t u) _).0 e in
    (ltb-true t u both.0, go (eqb t 0) refl both.1)
  where
    go : (b : Bool) → eqb t 0 ≡ b → (b || (leb (t + p.terms.turnaround) u && leb u (t + p.terms.keeping))) ≡ true
        → (t ≡ 0) ⊎ InTime p t u
    go true q h = inl (eqb-true t 0 q)
    go false q h =
        let (turned, fresh) = (and-eq-true_iff (leb (t + p.terms.turnaround) u) (leb u (t + p.terms.keeping))).0 h in
        inr (record { turned = leb-true (t + p.terms.turnaround) u turned; fresh = leb-true u (t + p.terms.keeping) fresh })

-- Nothing goes stale: what is heard in a plan is kept until it ends. A law that asks for this is marked "(kept)".
pub record Kept (p : Plan) : Type 0 where
  pub lasts : p.slots ≤ p.terms.keeping + 1

-- (kept) What may follow an appearance may follow an earlier one.
pub follows_earlier :
    (p : Plan) → Kept p → (t t' u : ℕ) → t' ≤ t → u ≤ p.slots → may_follow p t u ≡ true → may_follow p t' u ≡ true
follows_earlier p kept t t' u h inside e =
    let (later, waits) = follows_inv p t u e in
    by_cases (ℕ_discrete t' 0)
    (λ first. follows_intro p t' u (omega arith) (inl first))
    (λ other.
    ⊎_elim
    (λ first. absurd (omega arith))
    (λ w. let turned = w.turned in let lasts = kept.lasts in
    follows_intro p t' u (omega arith) (inr (record { turned = omega arith; fresh = omega arith })))
    waits)

-- (kept) With a turnaround of one slot the rule is, in the slots of the plan, that slots rise strictly.
pub turning_one : (p : Plan) → Kept p → (t u : ℕ) → p.terms.turnaround ≡ 1 → u ≤ p.slots → may_follow p t u ≡ ltb t u
turning_one p kept t u one inside = go (ltb t u) refl
  where
    go : (b : Bool) → ltb t u ≡ b → may_follow p t u ≡ b
    go true q =
        let later = ltb-true t u q in
        let lasts = kept.lasts in
        follows_intro p t u later
        (by_cases (ℕ_discrete t 0) (λ first. inl first)
        (λ other. inr (record { turned = omega arith; fresh = omega arith })))
    go false q =
        let by = ltb-false t u q in
        not_true_false (may_follow p t u) (λ e. let later = follows_later p t u e in omega arith)

-- (kept) In the slots of a plan a contact may follow just what was heard q slots before it or earlier; the start is slot 0. A
-- pass over the plan has what waits in q parts.
pub record Waits (p : Plan) (q : ℕ) : Type 0 where
  pub some : 0 < q
  pub most : q ≤ p.slots
  pub follows : (t u : ℕ) → 0 < u → u ≤ p.slots → may_follow p t u ≡ leb t (u - q)

-- (kept) what is heard waits as many slots as the turnaround says, but no longer than there are slots
pub waits_turnaround :
    (p : Plan) → Kept p → 0 < p.slots → 0 < p.terms.turnaround → Waits p (min p.terms.turnaround p.slots)
waits_turnaround p kept has turns =
    record { some = omega arith; most = omega arith; follows = λ t u low high. go t u low high (leb t (u - q)) refl }
  where
    q : ℕ
    q = min p.terms.turnaround p.slots

    go : (t u : ℕ) → 0 < u → u ≤ p.slots → (b : Bool) → leb t (u - q) ≡ b → may_follow p t u ≡ b
    go t u low high true e =
        let by = leb-true t (u - q) e in
        let lasts = kept.lasts in
        follows_intro p t u (omega arith)
        (by_cases (ℕ_discrete t 0) (λ first. inl first)
        (λ other. inr (record { turned = omega arith; fresh = omega arith })))
    go t u low high false e =
        let past = leb-false t (u - q) e in
        not_true_false (may_follow p t u) (λ f. none (follows_inv p t u f) past)
      where
        none : (t < u) × ((t ≡ 0) ⊎ InTime p t u) → u - q < t → ⊥
        none (later, inl first) past = omega arith
        none (later, inr w) past = let turned = w.turned in omega arith

-- a contact leads to its hearer
pub leads_below : (c : Contact) (v w n : ℕ) → c.hearer < n → leads_to c v ≡ some w → w < n
unfolding leads_to
leads_below c v w n station e = let h = (only_there c.sender c.hearer v w).0 e in let at = h.1 in omega arith

-- a contact leads from its sender to its hearer
pub leads_from_sender : (c : Contact) → leads_to c c.sender ≡ some c.hearer
leads_from_sender c = (leads_comes c c.sender c.hearer).1 (comes_to_hearer c)

-- a contact leads on from no other station
pub leads_none : (c : Contact) (v : ℕ) → v ≢ c.sender → leads_to c v ≡ none
unfolding leads_to
leads_none c v other = rw (ne_eqb v c.sender other)
