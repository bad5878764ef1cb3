-- The laws of steps, runs and their ends. They cite the laws of the two rules and never look into the rules.
-- Assumes nothing.
use Prim.Native.Nat.{ℕ, suc, ◌+◌, ◌≤◌, ◌<◌}
use mathlib.Core.Bool.{Bool, true}
use mathlib.Core.List.Memᴰ
use mathlib.Core.List.{List, [], ◌∷◌, ◌++◌, Memᴰ}
use mathlib.Core.Logic.{⊎_elim}
use mathlib.Core.Option.{Option, none, some, map, bind, map-eq-some_iff, map-id, map-map, bind-eq-some_iff}
use mathlib.Core.Path.{◌≡◌, refl, sym, ◌∙◌, ap}
use native.Mathlib.Omega.{arith}
use lib.ListN.{length, get_elem?}
use Rattle.temporal.specs.Plan.{Contact, Plan, Appearance, start, leads_to, may_follow}
use Rattle.temporal.specs.Walk.{along, step, run, last_or, holds, ends_in}
use Rattle.walks.proofs.RuleLaws.{Kept, follows_later, follows_earlier, leads_below}
use Rattle.lists.proofs.OptionLaws.{position_below, guarded, holds_inv}

-- what a step from x by the contact at position i to y consists of
pub record StepBy (p : Plan) (x : Appearance) (i : ℕ) (y : Appearance) : Type 0 where
  pub contact : Contact
  pub at_position : get_elem? p.contacts i ≡ some contact
  pub same_slot_law : y.slot ≡ contact.slot
  pub follows : may_follow p x.slot contact.slot ≡ true
  pub leads : leads_to contact x.station ≡ some y.station

-- no contact of a plan is in a slot past its last
pub record SlotsWithin (p : Plan) : Type 0 where
  pub within : (i : ℕ) (c : Contact) → get_elem? p.contacts i ≡ some c → c.slot ≤ p.slots

-- what a run from x over i and then w consists of
pub record RunBy (p : Plan) (x : Appearance) (i : ℕ) (w : List ℕ) (l : List Appearance) : Type 0 where
  pub next : Appearance
  pub others : List Appearance
  pub steps : step p x i ≡ some next
  pub goes_on : run p next w ≡ some others
  pub whole : next ∷ others ≡ l

module _ (p : Plan) where
  -- a step is by a contact of the plan that both rules allow
  pub step_inv : (x : Appearance) (i : ℕ) {y : Appearance} → step p x i ≡ some y → StepBy p x i y
  unfolding step along
  step_inv x i e =
      let (c, found, taken) = (bind-eq-some_iff (get_elem? p.contacts i) (along p x)).0 e in
      let (f, mapped) = guarded (may_follow p x.slot c.slot) _ taken in
      let (v, leads, whole) = (map-eq-some_iff _ (leads_to c x.station)).0 mapped in
      record {
        contact = c;
        at_position = found;
        same_slot_law = sym (ap (λ (a : Appearance). a.slot) whole);
        follows = f;
        leads = leads ∙ ap (λ (a : Appearance). some a.station) whole;
      }

  -- a contact of the plan that both rules allow is a step
  pub step_intro : (x : Appearance) (i : ℕ) {y : Appearance} → StepBy p x i y → step p x i ≡ some y
  unfolding step along bind
  step_intro x i s = rw (s.at_position, s.follows, s.leads, ← s.same_slot_law)

  -- a step leads to a later slot
  pub step_later : (x : Appearance) (i : ℕ) {y : Appearance} → step p x i ≡ some y → x.slot < y.slot
  step_later x i e =
      let s = step_inv x i e in
      let later = follows_later p x.slot s.contact.slot s.follows in
      omega arith

  -- a step is by a position of the plan
  pub step_position : (x : Appearance) (i : ℕ) {y : Appearance} → step p x i ≡ some y → i < length p.contacts
  step_position x i e = position_below p.contacts i (step_inv x i e).at_position

  -- (kept) A step from an appearance is one from each earlier appearance of its station.
  pub step_earlier :
      Kept p → SlotsWithin p → (x x' : Appearance) (i : ℕ) {y : Appearance} → x'.station ≡ x.station → x'.slot ≤ x.slot →
      step p x i ≡ some y → step p x' i ≡ some y
  step_earlier kept fits x x' i {y} same earlier e = step_intro x' i (again (step_inv x i e))
    where
      again : StepBy p x i y → StepBy p x' i y
      again s =
          record {
            contact = s.contact;
            at_position = s.at_position;
            same_slot_law = s.same_slot_law;
            follows =
                follows_earlier p kept x.slot x'.slot s.contact.slot earlier
                (fits.within i s.contact s.at_position) s.follows;
            leads = ap (leads_to s.contact) same ∙ s.leads;
          }

  -- the run over no position is empty
  pub run_nil : (x : Appearance) {l : List Appearance} → run p x [] ≡ some l → [] ≡ l
  unfolding run
  run_nil x e = cc

  -- a run over i and then w is a step by i and a run over w from where it leads
  pub run_cons :
      (x : Appearance) (i : ℕ) (w : List ℕ) {l : List Appearance} → run p x (i ∷ w) ≡ some l → RunBy p x i w l
  unfolding run
  run_cons x i w e =
      let (y, steps, mapped) = (bind-eq-some_iff (step p x i) _).0 e in
      let (m, goes_on, whole) = (map-eq-some_iff (◌∷◌ y) (run p y w)).0 mapped in
      record { next = y; others = m; steps = steps; goes_on = goes_on; whole = whole }

  -- a run has as many appearances as positions
  pub run_length : (x : Appearance) (w : List ℕ) {l : List Appearance} → run p x w ≡ some l → length l ≡ length w
  run_length x [] e = ap length (sym (run_nil x e))
  run_length x (i ∷ w) e =
      let r = run_cons x i w e in
      ap length (sym r.whole) ∙ ap suc (run_length r.next w r.goes_on)

  -- a run is over positions of the plan
  pub run_positions :
      (x : Appearance) (w : List ℕ) {l : List Appearance} → run p x w ≡ some l → (i : ℕ) → Memᴰ i w →
      i < length p.contacts
  run_positions x [] e i m = absurd (Memᴰ.not-nil m)
  run_positions x (j ∷ w) e i m =
      let r = run_cons x j w e in
      ⊎_elim
      (λ (q : i ≡ j). rw q (step_position x j r.steps))
      (run_positions r.next w r.goes_on i)
      (Memᴰ.cases_cons m)

  -- each hop of a run takes a slot at least
  pub run_slots :
      (x : Appearance) (w : List ℕ) {l : List Appearance} → run p x w ≡ some l →
      x.slot + length w ≤ (last_or x l).slot
  unfolding last_or
  run_slots x [] e = rw (← run_nil x e) (omega arith)
  run_slots x (i ∷ w) e =
      let r = run_cons x i w e in
      let later = step_later x i r.steps in
      let others = run_slots r.next w r.goes_on in
      rw (← r.whole) (omega arith)

  -- the appearances l of a run from x, and after them those of the run over w from its last; none where there is none
  abbrev pub then_run : List ℕ → Appearance → List Appearance → Option (List Appearance)
  then_run w x l = map (◌++◌ l) (run p (last_or x l) w)

  then_run_cons :
      (w : List ℕ) (x y : Appearance) (r : Option (List Appearance)) →
      map (◌∷◌ y) (bind r (then_run w y)) ≡ bind (map (◌∷◌ y) r) (then_run w x)
  unfolding bind last_or
  then_run_cons w x y none = refl
  then_run_cons w x y (some l) = map-map (◌∷◌ y) (◌++◌ l) (run p (last_or y l) w)

  -- the run over u and then w is the run over u, then the one over w from where u leads
  pub run_append : (x : Appearance) (u w : List ℕ) → run p x (u ++ w) ≡ bind (run p x u) (then_run w x)
  unfolding run last_or bind
  run_append x [] w = sym (ap (λ f. f (run p x w)) map-id)
  run_append x (i ∷ u) w = go (step p x i) (λ y. run_append y u w)
    where
      go :
          (o : Option Appearance) →
          ((y : Appearance) → run p y (u ++ w) ≡ bind (run p y u) (then_run w y)) →
          bind o (λ y. map (◌∷◌ y) (run p y (u ++ w))) ≡
          bind (bind o (λ y. map (◌∷◌ y) (run p y u))) (then_run w x)
      go none ih = refl
      go (some y) ih = rw (ih y) (then_run_cons w x y (run p y u))

  -- runs over u and then over w from where u leads make up one over both
  pub run_join :
      (x : Appearance) (u w : List ℕ) {l m : List Appearance} → run p x u ≡ some l → run p (last_or x l) w ≡ some m →
      run p x (u ++ w) ≡ some (l ++ m)
  unfolding bind
  run_join x u w d e = rw (run_append, d, e)

-- what a run from x over u and then w consists of
pub record RunOfTwo (p : Plan) (x : Appearance) (u w : List ℕ) (n : List Appearance) : Type 0 where
  pub first : List Appearance
  pub second : List Appearance
  pub begins : run p x u ≡ some first
  pub goes_on : run p (last_or x first) w ≡ some second
  pub whole : first ++ second ≡ n

module _ (p : Plan) where
  -- a run over u and then w is one over u and one over w from where u leads
  pub run_split :
      (x : Appearance) (u w : List ℕ) {n : List Appearance} → run p x (u ++ w) ≡ some n → RunOfTwo p x u w n
  run_split x u w e =
      let (l, begins, mapped) = (bind-eq-some_iff (run p x u) _).0 (sym (run_append p x u w) ∙ e) in
      let (m, goes_on, whole) = (map-eq-some_iff (◌++◌ l) (run p (last_or x l) w)).0 mapped in
      record { first = l; second = m; begins = begins; goes_on = goes_on; whole = whole }

-- the last of two runs in turn is the last of the second from the last of the first
pub last_append : (x : Appearance) (l m : List Appearance) → last_or x (l ++ m) ≡ last_or (last_or x l) m
unfolding last_or
last_append x [] m = refl
last_append x (y ∷ l) m = last_append y l m

module _ (p : Plan) (g : SlotsWithin p) where
  -- a run from a slot of the plan ends in a slot of the plan
  pub run_last_within :
      (x : Appearance) (w : List ℕ) {l : List Appearance} → x.slot ≤ p.slots → run p x w ≡ some l →
      (last_or x l).slot ≤ p.slots
  unfolding last_or
  run_last_within x [] h e = rw (← run_nil p x e) h
  run_last_within x (i ∷ w) h e =
      let r = run_cons p x i w e in
      let s = step_inv p x i r.steps in
      let fits = g.within i s.contact s.at_position in
      rw (← r.whole) (run_last_within r.next w (omega arith) r.goes_on)

  -- a walk has at most as many hops as the plan has slots
  pub run_within : (s : ℕ) (w : List ℕ) {l : List Appearance} → run p (start s) w ≡ some l → length w ≤ p.slots
  run_within s w e =
      let few = run_slots p (start s) w e in
      let fits = run_last_within (start s) w (omega arith) e in
      omega arith

-- what a walk w from x whose last appearance passes a test consists of
pub record Ends (p : Plan) (x : Appearance) (t : Appearance → Bool) (w : List ℕ) : Type 0 where
  pub visits : List Appearance
  pub runs : run p x w ≡ some visits
  pub passes : t (last_or x visits) ≡ true

module _ (p : Plan) (x : Appearance) (t : Appearance → Bool) where
  -- a walk that ends in a test has a run whose last appearance passes it
  pub ends_inv : (w : List ℕ) → ends_in p x t w ≡ true → Ends p x t w
  unfolding ends_in
  ends_inv w e =
      let (l, runs, passes) = holds_inv (run p x w) _ e in
      record { visits = l; runs = runs; passes = passes }

  -- a run whose last appearance passes a test is a walk that ends in it
  pub ends_intro :
      (w : List ℕ) {l : List Appearance} → run p x w ≡ some l → t (last_or x l) ≡ true → ends_in p x t w ≡ true
  unfolding ends_in holds
  ends_intro w runs passes = rw runs passes

  -- where a walk that ends in a test leads passes it
  pub ends_at : (w : List ℕ) {l : List Appearance} → ends_in p x t w ≡ true → run p x w ≡ some l → t (last_or x l) ≡ true
  unfolding ends_in holds
  ends_at w e runs = rw runs at e

  -- the empty walk ends where it begins
  pub ends_nil : ends_in p x t [] ≡ t x
  unfolding ends_in holds run last_or
  ends_nil = refl

  -- a walk over i and then w is a step by i and a walk over w from where it leads
  pub ends_cons : (i : ℕ) (w : List ℕ) → ends_in p x t (i ∷ w) ≡ holds (step p x i) (λ y. ends_in p y t w)
  unfolding ends_in holds run last_or bind
  ends_cons i w = go (step p x i)
    where
      drop_first :
          (y : Appearance) (r : Option (List Appearance)) →
          holds (map (◌∷◌ y) r) (λ l. t (last_or x l)) ≡ holds r (λ l. t (last_or y l))
      drop_first y none = refl
      drop_first y (some l) = refl

      go :
          (o : Option Appearance) →
          holds (bind o (λ y. map (◌∷◌ y) (run p y w))) (λ l. t (last_or x l)) ≡ holds o (λ y. ends_in p y t w)
      go none = refl
      go (some y) = drop_first y (run p y w)

  -- a walk that ends in a test goes on from where its first step leads
  pub ends_step :
      (i : ℕ) (w : List ℕ) → ends_in p x t (i ∷ w) ≡ true →
      (y : Appearance) × (step p x i ≡ some y) × (ends_in p y t w ≡ true)
  ends_step i w e = holds_inv (step p x i) _ (sym (ends_cons i w) ∙ e)

  -- a step and a walk from where it leads make up a walk
  pub ends_after :
      (i : ℕ) (w : List ℕ) {y : Appearance} → step p x i ≡ some y → ends_in p y t w ≡ true → ends_in p x t (i ∷ w) ≡ true
  unfolding holds
  ends_after i w steps e = ends_cons i w ∙ rw steps e

-- a walk from a station below n, over contacts with hearers below n, ends at one
pub run_station :
    (p : Plan) (n : ℕ) →
    ((i : ℕ) (c : Contact) → get_elem? p.contacts i ≡ some c → c.hearer < n) →
    (x : Appearance) (w : List ℕ) {l : List Appearance} → x.station < n → run p x w ≡ some l → (last_or x l).station < n
unfolding last_or
run_station p n inside x [] h e = rw (← run_nil p x e) h
run_station p n inside x (i ∷ w) h e =
    let r = run_cons p x i w e in
    let s = step_inv p x i r.steps in
    let here : r.next.station < n =
    leads_below s.contact x.station r.next.station n
    (inside i s.contact s.at_position) s.leads in
    rw (← r.whole) (run_station p n inside r.next w here r.goes_on)
