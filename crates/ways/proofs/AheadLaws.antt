-- The walks from an appearance to a station whose first position is not before a given one, and their fewest hops as
-- that position falls. Assumes nothing.
use Prim.Native.Nat.{ℕ, suc, ◌+◌, ◌≤◌, ◌<◌, min}
use mathlib.Core.Path.{◌≡◌, refl, sym, ap, ◌∙◌}
use mathlib.Core.Bool.{Bool, true, false, cond}
use mathlib.Core.List.{List, [], ◌∷◌}
use mathlib.Core.Logic.{◌⊎◌, inl, inr, ⊎_elim, by_cases}
use mathlib.Core.Option.{none, some}
use native.Mathlib.Decide.{dec_le}
use native.Mathlib.Omega.{arith}
use lib.Dec.{eqb}
use lib.ListN.{length, get_elem?}
use Rattle.temporal.specs.Plan.{Contact, Plan, Appearance, leads_to, may_follow}
use Rattle.temporal.specs.Walk.{ends_in, is_at}
use Rattle.lists.proofs.ListLaws.{not_both}
use Rattle.walks.proofs.RuleLaws.{follows_later, follows_start}
use Rattle.walks.proofs.ShortestLaws.{Bounded}
use Rattle.walks.proofs.WalkLaws.{step_inv, step_intro, step_position, run_slots, run_positions}
use Rattle.walks.proofs.WalkLaws.{SlotsWithin, run_last_within, ends_inv, ends_nil, ends_step, ends_after}
use Rattle.ways.specs.Home.{appearance, home_from}
use Rattle.ways.proofs.FewestLaws.{Fewest, fewest_same, fewest_shortest, fewest_joined}

-- walks from a slot of the plan are bounded
pub bounded_from : (p : Plan) → SlotsWithin p → (x : Appearance) (t : Appearance → Bool) → x.slot ≤ p.slots
    → Bounded p (ends_in p x t)
bounded_from p g x t inside =
    record {
      within = λ w e.
          let r = ends_inv p x t w e in
          let few = run_slots p x w r.runs in
          let last = run_last_within p g x w inside r.runs in
          (omega arith, run_positions p x w r.runs);
    }

-- a walk to z has a first position that is at least j, or is empty
pub StartsFrom : ℕ → List ℕ → Type 0
StartsFrom j [] = Unit {0}
StartsFrom j (i ∷ w) = j ≤ i

-- a walk from x to z whose first position is at least j
pub record Ahead (p : Plan) (z j : ℕ) (x : Appearance) (w : List ℕ) : Type 0 where
  pub ends : ends_in p x (is_at z) w ≡ true
  pub starts : StartsFrom j w

module _ (p : Plan) (z : ℕ) where
  -- the fewest of all walks is what the table is to hold
  pub fewest_home : SlotsWithin p → p.slots < 65535 → (x : Appearance) → x.slot ≤ p.slots
      → Fewest (λ w. ends_in p x (is_at z) w ≡ true) (home_from p z x)
  unfolding home_from
  fewest_home g few x inside = fewest_shortest (bounded_from p g x (is_at z) inside) few

  -- past the last position only the empty walk is left
  pub ahead_none : (v u j : ℕ) → length p.contacts ≤ j
      → Fewest (Ahead p z j (appearance v u)) (cond (eqb v z) 0 65535)
  unfolding StartsFrom
  ahead_none v u j past = go (eqb v z) refl
    where
      go : (b : Bool) → eqb v z ≡ b → Fewest (Ahead p z j (appearance v u)) (cond b 0 65535)
      go true q =
          record {
            bound = omega arith;
            least = λ w a. omega arith;
            reached = λ h. ([], record { ends = ends_nil p (appearance v u) (is_at z) ∙ q; starts = tt }, refl);
          }
      go false q =
          record { bound = omega arith; least = λ w a. absurd (nowhere w a); reached = λ h. absurd (omega arith) }
        where
          nowhere : (w : List ℕ) → Ahead p z j (appearance v u) w → ⊥
          nowhere [] a = not_both a.ends (ends_nil p (appearance v u) (is_at z) ∙ q)
          nowhere (i ∷ w) a =
              let (y, steps, rest) = ends_step p (appearance v u) (is_at z) i w a.ends in
              let inside = step_position p (appearance v u) i steps in
              let from = a.starts in
              omega arith

  -- where no contact before position j may follow x, all walks from x start from j on
  pub ahead_all : (x : Appearance) (j h : ℕ)
      → ((i : ℕ) (c : Contact) → i < j → get_elem? p.contacts i ≡ some c → may_follow p x.slot c.slot ≡ false)
      → Fewest (Ahead p z j x) h
      → Fewest (λ w. ends_in p x (is_at z) w ≡ true) h
  unfolding StartsFrom
  ahead_all x j h before = fewest_same (λ w a. a.ends) back
    where
      back : (w : List ℕ) → ends_in p x (is_at z) w ≡ true → Ahead p z j x w
      back [] e = record { ends = e; starts = tt }
      back (i ∷ w) e = record { ends = e; starts = by_cases (dec_le j i) (λ q. q) (λ q. absurd (sooner q)) }
        where
          sooner : (j ≤ i → ⊥) → ⊥
          sooner q =
              let (y, steps, rest) = ends_step p x (is_at z) i w e in
              let s = step_inv p x i steps in
              not_both s.follows (before i s.contact (omega arith) s.at_position)

  -- Walks that start from j on go from slot u' of a station too, where every contact from j on that may follow slot u may
  -- follow u'.
  ahead_moves : (v u u' j : ℕ)
      → ((i : ℕ) (c : Contact) → j ≤ i → get_elem? p.contacts i ≡ some c
      → may_follow p u c.slot ≡ true
      → may_follow p u' c.slot ≡ true)
      → (w : List ℕ)
      → Ahead p z j (appearance v u) w
      → Ahead p z j (appearance v u') w
  unfolding StartsFrom
  ahead_moves v u u' j too [] a =
      record {
        ends = ends_nil p (appearance v u') (is_at z) ∙ sym (ends_nil p (appearance v u) (is_at z)) ∙ a.ends;
        starts = tt;
      }
  ahead_moves v u u' j too (i ∷ w) a =
      let (y, steps, rest) = ends_step p (appearance v u) (is_at z) i w a.ends in
      let s = step_inv p (appearance v u) i steps in
      let again = step_intro p (appearance v u') i (record {
        contact = s.contact;
        at_position = s.at_position;
        same_slot_law = s.same_slot_law;
        follows = too i s.contact a.starts s.at_position s.follows;
        leads = s.leads;
      }) in
      record { ends = ends_after p (appearance v u') (is_at z) i w again rest; starts = a.starts }

  -- So they have the same fewest from the start, where every contact from j on may follow slot u.
  pub ahead_heard : (v u j : ℕ) {h : ℕ}
      → ((i : ℕ) (c : Contact) → j ≤ i → get_elem? p.contacts i ≡ some c → may_follow p u c.slot ≡ true)
      → Fewest (Ahead p z j (appearance v 0)) h
      → Fewest (Ahead p z j (appearance v u)) h
  ahead_heard v u j all =
      fewest_same
      (ahead_moves v 0 u j (λ i c from there f. all i c from there))
      (ahead_moves v u 0 j (λ i c from there f. let later = follows_later p u c.slot f in follows_start p c.slot (omega arith)))

  -- a contact at j
  module _ (v u j : ℕ) (c : Contact) (there : get_elem? p.contacts j ≡ some c) where
    -- a later start is a start
    weaken : (w : List ℕ) → Ahead p z (suc j) (appearance v u) w → Ahead p z j (appearance v u) w
    unfolding StartsFrom
    weaken [] a = record { ends = a.ends; starts = tt }
    weaken (i ∷ w) a = record { ends = a.ends; starts = let h = a.starts in omega arith }

    -- the walk starts at j or later
    at_or_later : (w : List ℕ) → Ahead p z j (appearance v u) w
        → Ahead p z (suc j) (appearance v u) w ⊎ ((r : List ℕ) × (w ≡ j ∷ r))
    unfolding StartsFrom
    at_or_later [] a = inl (record { ends = a.ends; starts = tt })
    at_or_later (i ∷ w) a =
        by_cases (dec_le (suc j) i)
        (λ q. inl (record { ends = a.ends; starts = q }))
        (λ q. inr (w, let h = a.starts in ap (λ k. k ∷ w) (same a.starts q)))
      where
        same : j ≤ i → (suc j ≤ i → ⊥) → i ≡ j
        same h q = omega arith

    -- a walk that starts with the contact does so where the contact may follow
    onward_follows : (r : List ℕ) → ends_in p (appearance v u) (is_at z) (j ∷ r) ≡ true → may_follow p u c.slot ≡ true
    onward_follows r e =
        let (y, steps, rest) = ends_step p (appearance v u) (is_at z) j r e in
        let s = step_inv p (appearance v u) j steps in
        let at = s.at_position in
        let same : s.contact ≡ c = cc in
        ap (λ (d : Contact). may_follow p u d.slot) (sym same) ∙ s.follows

    -- a walk that starts with the contact goes on from where it leads
    onward : (r : List ℕ) → ends_in p (appearance v u) (is_at z) (j ∷ r) ≡ true
        → (w : ℕ) × (leads_to c v ≡ some w) × (ends_in p (appearance w c.slot) (is_at z) r ≡ true)
    onward r e =
        let (y, steps, rest) = ends_step p (appearance v u) (is_at z) j r e in
        let s = step_inv p (appearance v u) j steps in
        let at = s.at_position in
        let same : s.contact ≡ c = cc in
        let when : y.slot ≡ c.slot = s.same_slot_law ∙ ap (λ (d : Contact). d.slot) same in
        let from = ap (λ (d : Contact). leads_to d v) (sym same) ∙ s.leads in
        (y.station, from, ap (λ k. ends_in p (appearance y.station k) (is_at z) r) (sym when) ∙ rest)

    -- Where the contact may follow slot u and leads to w, the fewest with it is the smaller of those without it and one more
    -- than w has to go in the contact's slot.
    pub ahead_fold : {w h l : ℕ} → may_follow p u c.slot ≡ true → leads_to c v ≡ some w
        → Fewest (Ahead p z (suc j) (appearance v u)) h
        → Fewest (λ r. ends_in p (appearance w c.slot) (is_at z) r ≡ true) l
        → Fewest (Ahead p z j (appearance v u)) (min h (l + 1))
    unfolding StartsFrom
    ahead_fold {w} follows leads = fewest_joined j weaken begins out
      where
        begins : (r : List ℕ) → ends_in p (appearance w c.slot) (is_at z) r ≡ true → Ahead p z j (appearance v u) (j ∷ r)
        begins r e =
            record {
              ends = ends_after p (appearance v u) (is_at z) j r (step_intro p (appearance v u) j (record {
                contact = c;
                at_position = there;
                same_slot_law = refl;
                follows = follows;
                leads = leads;
              })) e;
              starts = omega arith;
            }

        out : (r : List ℕ) → Ahead p z j (appearance v u) r
            → Ahead p z (suc j) (appearance v u) r
            ⊎ ((q : List ℕ) × (r ≡ j ∷ q) × (ends_in p (appearance w c.slot) (is_at z) q ≡ true))
        out r a = ⊎_elim inl first (at_or_later r a)
          where
            first : (q : List ℕ) × (r ≡ j ∷ q)
                → Ahead p z (suc j) (appearance v u) r
                ⊎ ((q : List ℕ) × (r ≡ j ∷ q) × (ends_in p (appearance w c.slot) (is_at z) q ≡ true))
            first (q, whole) =
                let (k, to, rest) = onward q (rw whole at a.ends) in
                let same : k ≡ w = cc in
                inr (q, whole, rw same at rest)

    -- where no walk starts with it, nothing changes
    ahead_without : {h : ℕ} → ((q : List ℕ) → ends_in p (appearance v u) (is_at z) (j ∷ q) ≡ true → ⊥)
        → Fewest (Ahead p z (suc j) (appearance v u)) h
        → Fewest (Ahead p z j (appearance v u)) h
    ahead_without none_so = fewest_same weaken back
      where
        back : (w : List ℕ) → Ahead p z j (appearance v u) w → Ahead p z (suc j) (appearance v u) w
        back w a = ⊎_elim (λ b. b) (λ f. let (q, whole) = f in absurd (none_so q (rw whole at a.ends))) (at_or_later w a)

    -- so where it leads nowhere from v
    pub ahead_past : {h : ℕ} → leads_to c v ≡ none → Fewest (Ahead p z (suc j) (appearance v u)) h
        → Fewest (Ahead p z j (appearance v u)) h
    ahead_past nowhere =
        ahead_without (λ q e. let (k, to, rest) = onward q e in let o : ◌≡◌ {A = ℕ} 0 1 = cc in omega arith)

    -- and where it may not follow slot u
    pub ahead_barred : {h : ℕ} → may_follow p u c.slot ≡ false → Fewest (Ahead p z (suc j) (appearance v u)) h
        → Fewest (Ahead p z j (appearance v u)) h
    ahead_barred not_so = ahead_without (λ q e. not_both (onward_follows q e) not_so)
