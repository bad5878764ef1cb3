-- The recurrence by the last leg: how many walks reach an appearance over each contact, and how many reach a station in
-- the slots that a contact may follow. All from the start of a source s, under a permission g.
-- Assumes nothing.
use Prim.Native.Nat.{ℕ, zero, suc, ◌+◌, ◌-◌, ◌≤◌, ◌<◌}
use mathlib.Core.Path.{◌≡◌, refl, sym, ap, ◌∙◌, fun_ext}
use mathlib.Core.Bool.{Bool, true, false, cond, ◌&&◌, ◌||◌, and-eq-true_iff, and-false, and-true}
use mathlib.Core.List.{map}
use mathlib.Core.Logic.{◌≢◌, by_cases}
use mathlib.Core.Option.{Option, none, some}
use native.Mathlib.Omega.{arith}
use native.Mathlib.Decide.{ℕ_discrete}
use borrow.Author.Tests.{eqb-true, eqb-false, eq-eqb, ne_eqb, leb-true, leb-false, le-leb, lt-leb}
use lib.Dec.{leb, eqb}
use lib.ListN.{length, get_elem?}
use Rattle.temporal.specs.Lists.{below, sum}
use Rattle.temporal.specs.Plan.{Contact, Plan, Appearance, start, may_follow}
use Rattle.temporal.specs.Walk.{step, is_appearance, is_at}
use Rattle.temporal.specs.Foremost.{arrives_by}
use Rattle.lists.proofs.ListLaws.{not_both, mem_below, sum_ext, sum_zero}
use Rattle.walks.proofs.RuleLaws.{comes_from, leads_comes, comes_to_hearer, comes_none}
use Rattle.walks.proofs.RuleLaws.{Waits}
use Rattle.walks.proofs.WalkLaws.{StepBy, step_inv, step_intro, step_later, SlotsWithin}
use Rattle.counting.proofs.SumLaws.{sum_less, sum_below_suc}
use Rattle.counting.proofs.Weights.{worth, behind, total, positions, cond_zero, cond_less, worth_zero}
use Rattle.counting.proofs.Weights.{worth_less, behind_none, last_leg, total_zero, total_ext, total_ext_along}
use Rattle.counting.proofs.Weights.{total_none, total_add, total_cond, total_worth, total_less}
use Rattle.counting.proofs.Fewest.{delayed}

-- 1 at the appearance (v, t)
unfoldable pub at_appearance : ℕ → ℕ → Appearance → ℕ
at_appearance v t y = cond (is_appearance v t y) 1 0

-- 1 at the appearances of station v that a contact in slot u may follow
unfoldable pub before : Plan → ℕ → ℕ → Appearance → ℕ
before p v u y = cond (is_at v y && may_follow p y.slot u) 1 0

-- 1 at the appearances of station v by slot e
abbrev pub heard : ℕ → ℕ → Appearance → ℕ
heard v e y = cond (arrives_by v e y) 1 0

-- the walks to the appearance (w, u) that end with contact c, by their hops
unfoldable pub inflow : Plan → ℕ → (ℕ → Bool) → Contact → ℕ → ℕ → ℕ → ℕ
inflow p s g c w u =
    delayed (λ k.
    cond (eqb c.slot u) (worth (comes_from c w) (λ v. cond (g v) (total p g (start s) (before p v u) k) 0)) 0)

-- those that end with a contact at a position below j
unfoldable pub arrivals : Plan → ℕ → (ℕ → Bool) → ℕ → ℕ → ℕ → ℕ → ℕ
arrivals p s g j w u k = sum (map (λ i. worth (get_elem? p.contacts i) (λ c. inflow p s g c w u k)) (below j))

-- the contact c leads from the appearance y to (w, u)
record Hop (p : Plan) (y : Appearance) (c : Contact) (w u : ℕ) : Type 0 where
  at_slot : c.slot ≡ u
  comes : comes_from c w ≡ some y.station
  follows : may_follow p y.slot u ≡ true

-- one hop from y by the contact c at position i
module _ (p : Plan) (g : ℕ → Bool) (w u i : ℕ) (y : Appearance) {c : Contact}
    (e : get_elem? p.contacts i ≡ some c) where
  -- what such a hop to (w, u) takes
  hop_inv : {z : Appearance} → step p y i ≡ some z → z.station ≡ w → z.slot ≡ u → Hop p y c w u
  hop_inv {z} steps there in-slot =
      let h = step_inv p y i steps in
      let found = h.at_position in
      let same : h.contact ≡ c = cc in
      let slot : c.slot ≡ u = sym (rw same at h.same_slot_law) ∙ in-slot in
      let follows : may_follow p y.slot c.slot ≡ true = rw same at h.follows in
      let comes : comes_from c z.station ≡ some y.station =
      (leads_comes c y.station z.station).0 (rw same at h.leads) in
      record { at_slot = slot; comes = rw there at comes; follows = rw slot at follows }

  -- where it does not lead to (w, u) it is worth nothing there
  missed : (Hop p y c w u → ⊥) → behind p g (at_appearance w u) i y ≡ 0
  unfolding at_appearance
  missed n = behind_none p g i y (λ z steps. go z steps (is_appearance w u z) refl)
    where
      go : (z : Appearance) → step p y i ≡ some z → (b : Bool) → is_appearance w u z ≡ b → ◌≡◌ {A = ℕ} (cond b 1 0) 0
      go z steps true q =
          let (a, b) = (and-eq-true_iff (eqb z.station w) (eqb z.slot u)).0 q in
          absurd (n (hop_inv steps (eqb-true z.station w a) (eqb-true z.slot u b)))
      go z steps false q = refl

  -- where it does it is worth 1, if y's station may be left
  reached : Hop p y c w u → behind p g (at_appearance w u) i y ≡ cond (g y.station) 1 0
  unfolding behind worth at_appearance
  reached h = rw (step_intro p y i by, eq-eqb w w refl, eq-eqb u u refl)
    where
      by : StepBy p y i (record { station = w; slot = u })
      by =
          record {
            contact = c;
            at_position = e;
            same_slot_law = sym h.at_slot;
            follows = rw h.at_slot h.follows;
            leads = (leads_comes c y.station w).1 h.comes;
          }

  -- what it is worth at (w, u)
  leg : behind p g (at_appearance w u) i y
      ≡ cond (eqb c.slot u) (worth (comes_from c w) (λ v. cond (g v) (before p v u y) 0)) 0
  unfolding worth before
  leg = go (eqb c.slot u) refl (comes_from c w) refl
    where
      from_station : (v : ℕ) → c.slot ≡ u → comes_from c w ≡ some v → (a : Bool) → eqb y.station v ≡ a
          → (f : Bool) → may_follow p y.slot u ≡ f
          → behind p g (at_appearance w u) i y ≡ cond (g v) (cond (a && f) 1 0) 0
      from_station v slot r false q f m =
          missed (λ h. let comes = h.comes in eqb-false y.station v q (cc)) ∙ sym (cond_zero (g v))
      from_station v slot r true q false m = missed (λ h. not_both h.follows m) ∙ sym (cond_zero (g v))
      from_station v slot r true q true m =
          let here = eqb-true y.station v q in
          reached (record { at_slot = slot; comes = rw here r; follows = m }) ∙ rw here

      go : (b : Bool) → eqb c.slot u ≡ b → (o : Option ℕ) → comes_from c w ≡ o
          → behind p g (at_appearance w u) i y ≡ cond b (worth o (λ v. cond (g v) (before p v u y) 0)) 0
      go false q o r = missed (λ h. eqb-false c.slot u q h.at_slot)
      go true q none r = missed (λ h. let comes = h.comes in let z : ◌≡◌ {A = ℕ} 0 1 = cc in omega arith)
      go true q (some v) r =
          from_station v (eqb-true c.slot u q) r (eqb y.station v) refl (may_follow p y.slot u) refl

-- of two tests that do not both hold, 1 where one does
one_of_two : (a m e : Bool) → (m ≡ true → e ≡ true → ⊥)
    → ◌≡◌ {A = ℕ} (cond (a && (m || e)) 1 0) (cond (a && m) 1 0 + cond (a && e) 1 0)
one_of_two false m e n = refl
one_of_two true true true n = absurd (n refl refl)
one_of_two true true false n = refl
one_of_two true false e n = omega arith

module _ (p : Plan) (s : ℕ) (g : ℕ → Bool) where
  -- no walk ends with a contact at a position below 0
  pub arrivals_zero : (w u k : ℕ) → arrivals p s g 0 w u k ≡ 0
  unfolding arrivals
  arrivals_zero w u k = sum_zero (below 0) (λ i m. absurd (let h = (mem_below 0).0 m in omega arith))

  -- one position more adds what its contact brings
  pub arrivals_suc : (j : ℕ) {c : Contact} → get_elem? p.contacts j ≡ some c → (w u k : ℕ)
      → arrivals p s g (suc j) w u k ≡ arrivals p s g j w u k + inflow p s g c w u k
  unfolding arrivals worth
  arrivals_suc j e w u k =
      sum_below_suc (λ i. worth (get_elem? p.contacts i) (λ c. inflow p s g c w u k)) j ∙ rw e

  -- a contact brings nothing to an appearance in another slot
  pub inflow_other_slot : (c : Contact) (w u k : ℕ) → c.slot ≢ u → inflow p s g c w u k ≡ 0
  unfolding inflow delayed
  inflow_other_slot c w u zero n = refl
  inflow_other_slot c w u (suc k) n = rw (ne_eqb c.slot u n)

  -- a contact brings nothing to a station that is not its hearer
  pub inflow_other_station : (c : Contact) (w u k : ℕ) → w ≢ c.hearer → inflow p s g c w u k ≡ 0
  unfolding inflow delayed worth
  inflow_other_station c w u zero n = refl
  inflow_other_station c w u (suc k) n = rw (comes_none c w n) (cond_zero (eqb c.slot u))

  -- a contact brings to its hearer, one hop later, the walks to its sender that it may follow
  pub inflow_to_hearer : (c : Contact) (u k : ℕ) → c.slot ≡ u
      → inflow p s g c c.hearer u k ≡ delayed (λ k. cond (g c.sender) (total p g (start s) (before p c.sender u) k) 0) k
  unfolding inflow delayed worth
  inflow_to_hearer c u zero e = refl
  inflow_to_hearer c u (suc k) e = rw (eq-eqb c.slot u e, comes_to_hearer c)

  -- positions whose contacts are in other slots add nothing
  pub arrivals_same : (w u k j j' : ℕ) → j ≤ j'
      → ((i : ℕ) (c : Contact) → j ≤ i → i < j' → get_elem? p.contacts i ≡ some c → c.slot ≢ u)
      → arrivals p s g j w u k ≡ arrivals p s g j' w u k
  unfolding arrivals
  arrivals_same w u k j zero h n = let same : j ≡ 0 = omega arith in rw same
  arrivals_same w u k j (suc j') h n =
      by_cases (ℕ_discrete j (suc j')) (λ same. rw same) (λ other.
      let nothing : adds j' ≡ 0 =
      worth_zero (get_elem? p.contacts j')
      (λ c e. inflow_other_slot c w u k (n j' c (omega arith) (omega arith) e)) in
      arrivals_same w u k j j' (omega arith) (λ i c g l. n i c g (omega arith))
      ∙ omega (arith, sum_below_suc adds j'))
    where
      adds : ℕ → ℕ
      adds i = worth (get_elem? p.contacts i) (λ c. inflow p s g c w u k)

  -- the walks of k + 1 hops to (w, u) whose last hop is by position i
  by_position : (w u k i : ℕ) (o : Option Contact) → get_elem? p.contacts i ≡ o
      → total p g (start s) (behind p g (at_appearance w u) i) k ≡ worth o (λ c. inflow p s g c w u (suc k))
  unfolding worth inflow delayed
  by_position w u k i none e =
      total_none p g (λ y. behind_none p g i y (λ z steps.
      let found = (step_inv p y i steps).at_position in
      absurd (let z : ◌≡◌ {A = ℕ} 0 1 = cc in omega arith)))
      (start s) k
  by_position w u k i (some c) e =
      let x = start s in
      total_ext p g (λ y. leg p g w u i y e) x k
      ∙ total_cond p g (eqb c.slot u) (λ y. worth (comes_from c w) (λ v. cond (g v) (before p v u y) 0)) x k
      ∙ ap (λ n. cond (eqb c.slot u) n 0)
      (total_worth p g (comes_from c w) (λ v y. cond (g v) (before p v u y) 0) x k
      ∙ ap (worth (comes_from c w)) (fun_ext (λ v. total_cond p g (g v) (before p v u) x k)))

  -- the walks to an appearance after slot 0 are those that end with some contact of the plan
  pub arrivals_all : (w u k : ℕ) → 0 < u
      → total p g (start s) (at_appearance w u) k ≡ arrivals p s g (length p.contacts) w u k
  unfolding arrivals at_appearance inflow delayed
  arrivals_all w u zero h =
      total_zero p g (start s) (at_appearance w u)
      ∙ rw (ne_eqb 0 u (omega arith), and-false (eqb s w))
      (sym (sum_zero (positions p) (λ i m. worth_zero (get_elem? p.contacts i) (λ c e. refl))))
  arrivals_all w u (suc k) h =
      last_leg p g (start s) (at_appearance w u) k
      ∙ sum_ext (positions p) (λ i m. by_position w u k i (get_elem? p.contacts i) refl)

  -- the empty walk ends in the source's start
  pub start_here : total p g (start s) (at_appearance s 0) 0 ≡ 1
  unfolding at_appearance
  start_here = total_zero p g (start s) (at_appearance s 0) ∙ rw (eq-eqb s s refl)

  -- no walk with a hop ends in slot 0
  pub start_later : (v k : ℕ) → total p g (start s) (at_appearance v 0) (suc k) ≡ 0
  unfolding at_appearance
  start_later v k =
      last_leg p g (start s) (at_appearance v 0) k
      ∙ sum_zero (positions p) (λ i m. total_none p g (λ y. behind_none p g i y (λ z steps.
      let later = step_later p y i steps in
      rw (ne_eqb z.slot 0 (omega arith), and-false (eqb z.station v)))) (start s) k)

  -- no walk ends in slot 0 at another station
  pub start_other : (v k : ℕ) → v ≢ s → total p g (start s) (at_appearance v 0) k ≡ 0
  unfolding at_appearance
  start_other v zero n = total_zero p g (start s) (at_appearance v 0) ∙ rw (ne_eqb s v (λ e. n (sym e)))
  start_other v (suc k) n = start_later v k

  -- ---- the walks to a station by a slot

  -- by slot 0 there is the start
  pub heard_zero : (v k : ℕ) → total p g (start s) (heard v 0) k ≡ total p g (start s) (at_appearance v 0) k
  unfolding arrives_by at_appearance
  heard_zero v k = total_ext p g (λ y. ap (λ b. cond (is_at v y && b) 1 0) (at_zero y.slot)) (start s) k
    where
      at_zero : (t : ℕ) → leb t 0 ≡ eqb t 0
      at_zero t = go (eqb t 0) refl
        where
          go : (b : Bool) → eqb t 0 ≡ b → leb t 0 ≡ b
          go true q = let here = eqb-true t 0 q in le-leb t 0 (omega arith)
          go false q = let other : t ≡ 0 → ⊥ = eqb-false t 0 q in lt-leb t 0 (omega arith)

  -- by one slot more there are those of that slot besides
  pub heard_more : (v e k : ℕ)
      → total p g (start s) (heard v (suc e)) k
      ≡ total p g (start s) (heard v e) k + total p g (start s) (at_appearance v (suc e)) k
  unfolding arrives_by at_appearance
  heard_more v e k =
      total_ext p g (λ y. ap (λ b. cond (is_at v y && b) 1 0) (by_more y.slot)
      ∙ one_of_two (is_at v y) (leb y.slot e) (eqb y.slot (suc e)) (λ q r.
      let by = leb-true y.slot e q in
      let same = eqb-true y.slot (suc e) r in
      omega arith))
      (start s) k ∙ total_add p g (heard v e) (at_appearance v (suc e)) (start s) k
    where
      by_more : (t : ℕ) → leb t (suc e) ≡ (leb t e || eqb t (suc e))
      by_more t = go (leb t e) refl (eqb t (suc e)) refl
        where
          go : (b : Bool) → leb t e ≡ b → (c : Bool) → eqb t (suc e) ≡ c → leb t (suc e) ≡ (b || c)
          go true q c r = let by = leb-true t e q in le-leb t (suc e) (omega arith)
          go false q true r = let same = eqb-true t (suc e) r in le-leb t (suc e) (omega arith)
          go false q false r =
              let past = leb-false t e q in
              let other : t ≡ suc e → ⊥ = eqb-false t (suc e) r in
              lt-leb t (suc e) (omega arith)

  -- (kept) in a slot of the plan they may go on that were there q slots before
  pub heard_ready : (q : ℕ) → Waits p q → (v u k : ℕ) → 0 < u → u ≤ p.slots
      → total p g (start s) (before p v u) k ≡ total p g (start s) (heard v (u - q)) k
  unfolding before arrives_by
  heard_ready q w v u k low high =
      total_ext p g (λ y. ap (λ b. cond (is_at v y && b) 1 0) (w.follows y.slot u low high)) (start s) k

  -- by the last slot there are all
  pub heard_all : SlotsWithin p → (v k : ℕ)
      → total p g (start s) (λ y. cond (is_at v y) 1 0) k ≡ total p g (start s) (heard v p.slots) k
  unfolding arrives_by
  heard_all fits v k =
      total_ext_along p g (λ y. y.slot ≤ p.slots)
      (λ x i y h steps. let b = step_inv p x i steps in
      let within = fits.within i b.contact b.at_position in omega arith)
      (λ y h. rw (le-leb y.slot p.slots h, and-true (is_at v y))) (start s) k (omega arith)

module _ (p : Plan) (s : ℕ) (g g' : ℕ → Bool) (wider : (v : ℕ) → g v ≡ true → g' v ≡ true) where
  -- under a wider permission a contact brings no less
  pub inflow_less : (c : Contact) (w u k : ℕ) → inflow p s g c w u k ≤ inflow p s g' c w u k
  unfolding inflow delayed
  inflow_less c w u zero = omega arith
  inflow_less c w u (suc k) =
      cond_less (eqb c.slot u) (eqb c.slot u) (λ q. q)
      (worth_less (comes_from c w) _ _ (λ v.
      cond_less (g v) (g' v) (wider v) (total_less p g g' wider (start s) (before p v u) k)))

  -- under a wider permission no fewer walks arrive
  pub arrivals_less : (j w u k : ℕ) → arrivals p s g j w u k ≤ arrivals p s g' j w u k
  unfolding arrivals
  arrivals_less j w u k =
      sum_less _ _ (below j) (λ i. worth_less (get_elem? p.contacts i) _ _ (λ c. inflow_less c w u k))
