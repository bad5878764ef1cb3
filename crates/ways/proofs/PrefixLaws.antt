-- Positions that begin a shortest walk: they complete, so does each beginning of them, each can be gone on with, and of
-- the pair's hops they are the complete list.
-- Assumes nothing.
use Prim.Native.Nat.{ℕ, zero, suc, ◌+◌, ◌-◌, ◌≤◌, ◌<◌}
use mathlib.Core.Path.{◌≡◌, refl, sym, ap, ◌∙◌, subst}
use mathlib.Core.Bool.{Bool, true, false}
use mathlib.Core.List.{List, [], ◌∷◌, ◌++◌, Memᴰ, append-nil, append_assoc}
use mathlib.Core.Logic.{⊎_elim, by_cases, ◌↔◌}
use mathlib.Core.Option.{Option, none, some, map, bind, map-eq-some_iff, bind-eq-some_iff}
use native.Mathlib.Omega.{arith}
use native.Mathlib.Decide.{dec_le, ℕ_discrete}
use borrow.Author.Tests.{eqb-true, eqb-false, eq-eqb, ne_eqb}
use lib.Dec.{eqb}
use lib.ListN.{length, length-append}
use Rattle.temporal.specs.Lists.{tuples}
use Rattle.temporal.specs.Plan.{Contact, Plan, Terms, Appearance, start, leads_to}
use Rattle.temporal.specs.Walk.{step, run, last_or, holds, ends_in, is_at, is_walk_to}
use Rattle.temporal.specs.Shortest.{of_hops, shortest_walks_to, hops}
use Rattle.temporal.specs.Bytes.{contact_at, records, plan_of}
use Rattle.temporal.specs.Cause.{plan_fault}
use Rattle.lists.proofs.ListLaws.{not_both, select_ext, mem_tuples}
use Rattle.lists.proofs.OptionLaws.{holds_inv}
use Rattle.walks.proofs.RuleLaws.{leads_below, leads_comes, comes_none, follows_later}
use Rattle.walks.proofs.ShortestLaws.{Bounded, hops_bound, mem_of_hops_bounded_law, hops_empty}
use Rattle.walks.proofs.WalkLaws.{step_inv, run_append, run_join, last_append, run_within, run_positions}
use Rattle.walks.proofs.WalkLaws.{ends_inv, ends_intro, ends_nil, ends_step, ends_after}
use Rattle.walks.proofs.Accepted.{accepted}
use Rattle.walks.proofs.PlanLaws.{contact_inv, contact_within, slots_within, slots_sorted}
use Rattle.walks.proofs.Adequacy.{bounded_ends, walk_ends_within}
use Rattle.counting.proofs.Fewest.{shortest_of_hops_law}
use Rattle.ways.specs.Home.{appearance, home_from}
use Rattle.ways.specs.Prefix.{end_after, completes}
use Rattle.ways.proofs.FewestLaws.{Fewest}
use Rattle.ways.proofs.AheadLaws.{fewest_home}

-- ---- where positions end

module _ (p : Plan) (x : Appearance) where
  -- no position leads to where it began
  pub end_nil : end_after p x [] ≡ some x
  unfolding end_after run last_or
  end_nil = refl

  -- what positions that end somewhere consist of
  end_inv : (w : List ℕ) {y : Appearance} → end_after p x w ≡ some y
      → (l : List Appearance) × (run p x w ≡ some l) × (last_or x l ≡ y)
  unfolding end_after
  end_inv w e = (map-eq-some_iff (last_or x) (run p x w)).0 e

  -- one position more is a step from the end
  pub end_snoc : (w : List ℕ) (i : ℕ) → end_after p x (w ++ i ∷ []) ≡ bind (end_after p x w) (λ y. step p y i)
  unfolding end_after run last_or bind
  end_snoc w i = rw run_append (go (run p x w))
    where
      last : (l : List Appearance) (o : Option Appearance)
          → map (last_or x) (map (◌++◌ l) (bind o (λ y. map (◌∷◌ y) (some [])))) ≡ o
      last l none = refl
      last l (some y) = ap some (last_append x l (y ∷ []))

      go : (o : Option (List Appearance))
          → map (last_or x) (bind o (λ l.
          map (◌++◌ l) (bind (step p (last_or x l) i) (λ y. map (◌∷◌ y) (some [])))))
          ≡ bind (map (last_or x) o) (λ y. step p y i)
      go none = refl
      go (some l) = last l (step p (last_or x l) i)

  -- a walk that ends in a test is one whose end passes it
  pub ends_end : (t : Appearance → Bool) (w : List ℕ) → ends_in p x t w ≡ holds (end_after p x w) t
  unfolding ends_in end_after holds
  ends_end t w = go (run p x w)
    where
      go : (o : Option (List Appearance)) → holds o (λ l. t (last_or x l)) ≡ holds (map (last_or x) o) t
      go none = refl
      go (some l) = refl

  -- a walk from the end goes on the walk
  ends_through : (t : Appearance → Bool) (w u : List ℕ) {y : Appearance} → end_after p x w ≡ some y
      → ends_in p y t u ≡ true
      → ends_in p x t (w ++ u) ≡ true
  ends_through t w u {y} e f =
      let (l, runs, last) = end_inv w e in
      let g = ends_inv p y t u f in
      let on : run p (last_or x l) u ≡ some g.visits = rw last g.runs in
      ends_intro p x t (w ++ u) (run_join p x w u runs on)
      (rw (last_append x l g.visits, last) g.passes)

-- a sum with k on the left
pub shifted : (k m h : ℕ) → k + 1 ≤ h → eqb m (h - (k + 1)) ≡ eqb (suc k + m) h
shifted k m h fits = go (eqb m (h - (k + 1))) refl
  where
    go : (b : Bool) → eqb m (h - (k + 1)) ≡ b → b ≡ eqb (suc k + m) h
    go true q = let e = eqb-true m (h - (k + 1)) q in sym (eq-eqb (suc k + m) h (omega arith))
    go false q =
        let n : m ≡ h - (k + 1) → ⊥ = eqb-false m (h - (k + 1)) q in
        sym (ne_eqb (suc k + m) h (λ e. n (omega arith)))

-- a contact leads to no station but its hearer
leads_to_hearer : (c : Contact) (v w : ℕ) → leads_to c v ≡ some w → w ≡ c.hearer
leads_to_hearer c v w e =
    by_cases (ℕ_discrete w c.hearer) (λ same. same) (λ other.
    let comes = (leads_comes c v w).0 e in
    let nowhere = comes_none c w other in
    absurd (let z : ◌≡◌ {A = ℕ} 0 1 = cc in omega arith))

-- ---- in an accepted plan

module _ (bs : List ℕ) (n t : ℕ) (terms : Terms) (ok : plan_fault bs n t ≡ 0) where
  abbrev p : Plan
  p = plan_of bs n t terms

  -- a step leads to a station and a slot of the plan
  pub step_inside : (x : Appearance) (i : ℕ) {y : Appearance} → step p x i ≡ some y → (y.station < n) × (y.slot ≤ t)
  step_inside x i {y} e =
      let s = step_inv p x i e in
      let c = contact_within bs n t terms ok i s.contact s.at_position in
      let last = c.to_last in
      let same = s.same_slot_law in
      (leads_below s.contact x.station y.station n c.hearer_station s.leads, omega arith)

  -- a step over a record leads to its hearer in its slot
  pub step_heard : (x : Appearance) (i : ℕ) {y : Appearance} → step p x i ≡ some y
      → (i < records bs) × (y ≡ appearance (contact_at bs i).hearer (contact_at bs i).slot)
  step_heard x i {y} e =
      let s = step_inv p x i e in
      let (inside, same) = contact_inv bs n t terms i s.contact s.at_position in
      let station = leads_to_hearer s.contact x.station y.station s.leads ∙ ap (λ (c : Contact). c.hearer) (sym same) in
      let slot = s.same_slot_law ∙ ap (λ (c : Contact). c.slot) (sym same) in
      (inside, ap (λ k. appearance k y.slot) station ∙ ap (λ k. appearance (contact_at bs i).hearer k) slot)

  -- positions from a station's start end in a slot of the plan
  end_slot : (s : ℕ) (w : List ℕ) {x : Appearance} → s < n → end_after p (start s) w ≡ some x → x.slot ≤ t
  end_slot s w inside e =
      let (l, runs, last) = end_inv p (start s) w e in
      subst (λ (y : Appearance). y.slot ≤ t) last (walk_ends_within bs n t terms ok s w l inside runs).1

  module _ (z : ℕ) where
    -- the fewest hops to z are the fewest of the walks there
    home : (x : Appearance) → x.slot ≤ t → Fewest (λ w. ends_in p x (is_at z) w ≡ true) (home_from p z x)
    unfolding plan_of
    home x inside =
        fewest_home p z (slots_within bs n t terms ok) (let few = (accepted bs n t ok).slots in omega arith) x inside

    -- one step saves at most one hop
    home_step : (x : Appearance) (i : ℕ) {y : Appearance} → x.slot ≤ t → step p x i ≡ some y
        → home_from p z x ≤ home_from p z y + 1
    home_step x i {y} inside e = by_cases (dec_le 65535 (home_from p z y)) far near
      where
        far : 65535 ≤ home_from p z y → home_from p z x ≤ home_from p z y + 1
        far h = let b = (home x inside).bound in omega arith

        near : (65535 ≤ home_from p z y → ⊥) → home_from p z x ≤ home_from p z y + 1
        near h =
            let (w, ends, size) = (home y (step_inside x i e).1).reached (omega arith) in
            let few = (home x inside).least (i ∷ w) (ends_after p x (is_at z) i w e ends) in
            omega arith

    -- some step saves one hop where there are some to go
    home_first : (x : Appearance) → x.slot ≤ t → 0 < home_from p z x → home_from p z x < 65535
        → (i : ℕ) × (y : Appearance) × (step p x i ≡ some y) × (home_from p z y + 1 ≡ home_from p z x)
    home_first x inside more near =
        let (w, ends, size) = (home x inside).reached near in
        go w ends size
      where
        go : (w : List ℕ) → ends_in p x (is_at z) w ≡ true → length w ≡ home_from p z x
            → (i : ℕ) × (y : Appearance) × (step p x i ≡ some y) × (home_from p z y + 1 ≡ home_from p z x)
        go [] e size = absurd (omega arith)
        go (i ∷ w) e size =
            let (y, steps, rest) = ends_step p x (is_at z) i w e in
            let few = (home y (step_inside x i steps).1).least w rest in
            let saves = home_step x i inside steps in
            (i, y, steps, omega arith)

    -- nothing is left to go at z and nowhere else
    home_zero : (x : Appearance) → x.slot ≤ t → (home_from p z x ≡ 0) ↔ (is_at z x ≡ true)
    home_zero x inside = (
      λ e. let (w, ends, size) = (home x inside).reached (omega arith) in go w ends (size ∙ e),
      λ e. let few = (home x inside).least [] (ends_nil p x (is_at z) ∙ e) in omega arith,
    )
      where
        go : (w : List ℕ) → ends_in p x (is_at z) w ≡ true → length w ≡ 0 → is_at z x ≡ true
        go [] e size = sym (ends_nil p x (is_at z)) ∙ e
        go (i ∷ w) e size = absurd (omega arith)

  -- a pair with a walk of k hops at least
  module _ (s z k : ℕ) (inside : s < n) (fewest : k ≡ hops (shortest_walks_to p s z)) (near : k < 65535) where
    -- the pair's hops are what the start has to go
    start_home : home_from p z (start s) ≡ k
    unfolding home_from shortest_walks_to
    start_home = sym fewest

    -- no positions with what their end has to go are fewer
    start_fewest : (w : List ℕ) {x : Appearance} → end_after p (start s) w ≡ some x → k ≤ length w + home_from p z x
    start_fewest w {x} e = by_cases (dec_le 65535 (home_from p z x)) (λ h. omega arith) found_there
      where
        found_there : (65535 ≤ home_from p z x → ⊥) → k ≤ length w + home_from p z x
        found_there h =
            let (u, ends, size) = (home z x (end_slot s w inside e)).reached (omega arith) in
            let few = (home z (start s) (omega arith)).least (w ++ u) (ends_through p (start s) (is_at z) w u e ends) in
            omega (arith, start_home, length-append w u)

    -- what positions that complete consist of
    pub completes_inv : (w : List ℕ) → completes p s z k w ≡ true
        → (x : Appearance) × (end_after p (start s) w ≡ some x) × (length w + home_from p z x ≡ k)
    unfolding completes
    completes_inv w e =
        let (x, there, sum) = holds_inv (end_after p (start s) w) _ e in
        (x, there, eqb-true _ _ sum)

    completes_intro : (w : List ℕ) {x : Appearance} → end_after p (start s) w ≡ some x → length w + home_from p z x ≡ k
        → completes p s z k w ≡ true
    unfolding completes holds
    completes_intro w there sum = rw there (eq-eqb _ _ sum)

    -- no position completes
    pub completes_nil : completes p s z k [] ≡ true
    completes_nil = completes_intro [] (end_nil p (start s)) (omega (arith, start_home))

    -- one position more, from the end
    pub completes_snoc : (w : List ℕ) (i : ℕ) {x : Appearance} → end_after p (start s) w ≡ some x
        → completes p s z k (w ++ i ∷ []) ≡ holds (step p x i) (λ y. eqb (suc (length w) + home_from p z y) k)
    unfolding completes bind
    completes_snoc w i there =
        let size : length (w ++ i ∷ []) ≡ suc (length w) = length-append w (i ∷ []) ∙ omega arith in
        rw (end_snoc p (start s) w i, there, size)

    -- where one position more completes, so do those before it
    pub completes_front : (w : List ℕ) (i : ℕ) → completes p s z k (w ++ i ∷ []) ≡ true → completes p s z k w ≡ true
    unfolding bind
    completes_front w i e =
        let (y, there, sum) = completes_inv (w ++ i ∷ []) e in
        go (end_after p (start s) w) refl y sum (sym (end_snoc p (start s) w i) ∙ there)
      where
        go : (o : Option Appearance) → end_after p (start s) w ≡ o → (y : Appearance)
            → length (w ++ i ∷ []) + home_from p z y ≡ k
            → bind o (λ x. step p x i) ≡ some y
            → completes p s z k w ≡ true
        go none q y sum steps = absurd (let o : ◌≡◌ {A = ℕ} 0 1 = cc in omega arith)
        go (some x) q y sum steps =
            let saves = home_step z x i (end_slot s w inside q) steps in
            let most = start_fewest w q in
            completes_intro w q (omega (arith, length-append w (i ∷ [])))

    -- positions that complete rise: slots do, and the records stand by slots
    pub completes_rise : (w : List ℕ) (i m : ℕ) → completes p s z k ((w ++ i ∷ []) ++ m ∷ []) ≡ true → i < m
    completes_rise w i m e =
        let (y, there, sum) = completes_inv ((w ++ i ∷ []) ++ m ∷ []) e in
        let (x, before, steps) = (bind-eq-some_iff (end_after p (start s) (w ++ i ∷ [])) _).0
        (sym (end_snoc p (start s) (w ++ i ∷ []) m) ∙ there) in
        let (x₀, front, came) = (bind-eq-some_iff (end_after p (start s) w) _).0 (sym (end_snoc p (start s) w i) ∙ before) in
        let a = step_inv p x₀ i came in
        let b = step_inv p x m steps in
        let later = follows_later p x.slot b.contact.slot b.follows in
        let here = contact_inv bs n t terms i a.contact a.at_position in
        let there = contact_inv bs n t terms m b.contact b.at_position in
        let slot = a.same_slot_law in
        by_cases (dec_le m i)
        (λ h.
        let sorted = slots_sorted bs n t terms ok m (i - m) (let inside = here.0 in omega arith) in
        let place : m + (i - m) ≡ i = omega arith in
        let fall : (contact_at bs m).slot ≤ (contact_at bs i).slot = rw place at sorted in
        absurd (omega (arith, ap (λ (c : Contact). c.slot) here.1, ap (λ (c : Contact). c.slot) there.1)))
        (λ h. omega arith)

    -- fewer positions than the pair's hops can be gone on with
    pub completes_onward : (w : List ℕ) → completes p s z k w ≡ true → length w < k
        → (i : ℕ) × (completes p s z k (w ++ i ∷ []) ≡ true)
    unfolding holds
    completes_onward w e fewer =
        let (x, there, sum) = completes_inv w e in
        let (i, y, steps, one) = home_first z x (end_slot s w inside there) (omega arith) (omega arith) in
        (i, completes_snoc w i there ∙ rw steps (eq-eqb (suc (length w) + home_from p z y) k (omega arith)))

    -- positions that complete are bounded
    pub completes_bounded : Bounded p (completes p s z k)
    completes_bounded =
        record {
          within = λ w e.
              let (x, there, sum) = completes_inv w e in
              let (l, runs, last) = end_inv p (start s) w there in
              (run_within p (slots_within bs n t terms ok) s w runs, run_positions p (start s) w runs);
        }

    -- the walks of the pair's hops to z are those that complete
    pub completes_walk : (w : List ℕ) → length w ≡ k → is_walk_to p s z w ≡ completes p s z k w
    unfolding completes holds
    completes_walk w size = ends_end p (start s) (is_at z) w ∙ go (end_after p (start s) w) refl
      where
        at_z : (x : Appearance) → x.slot ≤ t → (b : Bool) → is_at z x ≡ b → b ≡ eqb (length w + home_from p z x) k
        at_z x h true q = sym (eq-eqb (length w + home_from p z x) k (let e = (home_zero z x h).1 q in omega arith))
        at_z x h false q =
            sym (ne_eqb (length w + home_from p z x) k (λ e. not_both ((home_zero z x h).0 (omega arith)) q))

        go : (o : Option Appearance) → end_after p (start s) w ≡ o
            → holds o (is_at z) ≡ holds o (λ x. eqb (length w + home_from p z x) k)
        go none q = refl
        go (some x) q = at_z x (end_slot s w inside q) (is_at z x) refl

    -- The complete list is the list of the positions, as many as the pair's hops, that complete.
    pub complete_list : shortest_walks_to p s z ≡ of_hops p (completes p s z k) k
    unfolding of_hops shortest_walks_to
    complete_list =
        let m = length p.contacts in
        shortest_of_hops_law (bounded_ends p (slots_within bs n t terms ok) s (is_at z))
        ∙ ap (of_hops p (is_walk_to p s z)) (sym fewest)
        ∙ select_ext (tuples m k) (λ w mem. completes_walk w ((mem_tuples m k).0 mem).0)

    -- Its members are the lists of the pair's hops that complete.
    pub mem_complete : {w : List ℕ}
        → Memᴰ w (shortest_walks_to p s z) ↔ ((length w ≡ k) × (completes p s z k w ≡ true))
    mem_complete = rw complete_list (mem_of_hops_bounded_law completes_bounded k)

    -- Positions that complete begin a member of the complete list: document 01's "leads home".
    pub completes_begins : (w : List ℕ) → completes p s z k w ≡ true
        → (u : List ℕ) × Memᴰ (w ++ u) (shortest_walks_to p s z)
    completes_begins w e = go (k - length w) w e refl
      where
        one_longer : (w : List ℕ) (i : ℕ) → (u : List ℕ) × Memᴰ ((w ++ i ∷ []) ++ u) (shortest_walks_to p s z)
            → (u : List ℕ) × Memᴰ (w ++ u) (shortest_walks_to p s z)
        one_longer w i (u, m) = (i ∷ u, rw append_assoc at m)

        go : (d : ℕ) (w : List ℕ) → completes p s z k w ≡ true → k - length w ≡ d
            → (u : List ℕ) × Memᴰ (w ++ u) (shortest_walks_to p s z)
        go zero w e left =
            let (x, there, sum) = completes_inv w e in
            ([], mem_complete.1 (rw append-nil (omega arith, e)))
        go (suc d) w e left =
            let (i, c) = completes_onward w e (omega arith) in
            one_longer w i (go d (w ++ i ∷ []) c (omega (arith, length-append w (i ∷ []))))

    -- Positions that begin a member of the complete list complete.
    pub begins_completes : (u w : List ℕ) → Memᴰ (w ++ u) (shortest_walks_to p s z) → completes p s z k w ≡ true
    begins_completes [] w m = rw append-nil at (mem_complete.0 m).1
    begins_completes (i ∷ u) w m = completes_front w i (begins_completes u (w ++ i ∷ []) (rw append_assoc m))

    -- The pair has no more hops than the plan has slots.
    pub hops_within : k ≤ t
    unfolding plan_of shortest_walks_to
    hops_within =
        ⊎_elim
        (λ e. absurd (omega (arith, hops_empty (shortest_walks_to p s z) e)))
        (λ h. omega arith)
        (hops_bound (bounded_ends p (slots_within bs n t terms ok) s (is_at z)))
