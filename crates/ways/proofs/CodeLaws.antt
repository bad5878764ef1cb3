-- What the tests on the way through the code decide: a step, a walk along a buffer, a search for a position.
-- Assumes nothing.
use Prim.Native.Nat.{ℕ, suc, ◌+◌, ◌-◌, ◌*◌, ◌/◌, ◌≤◌, ◌<◌}
use mathlib.Core.Path.{◌≡◌, refl, sym, ap, ◌∙◌}
use mathlib.Core.Bool.{Bool, true, false}
use mathlib.Core.List.{List, ◌++◌}
use mathlib.Core.Logic.{◌≢◌}
use mathlib.Core.Option.{Option, none, some, map, bind}
use native.Mathlib.Omega.{arith}
use native.Mathlib.Numerals.{add-one}
use lib.Arith.{digits_lt}
use lib.Dec.{eqb}
use lib.ListN.{length, get_or, take}
use lib.Seq.{take-suc, take-add}
use Rattle.temporal.specs.Plan.{Contact, Plan, Terms, Appearance, leads_to, may_follow}
use Rattle.temporal.specs.Walk.{step, run, last_or, holds}
use Rattle.temporal.specs.Bytes.{contact_at, records, plan_of}
use Rattle.lists.proofs.ListLaws.{not_both}
use Rattle.walks.proofs.RuleLaws.{leads_from_sender, leads_none}
use Rattle.walks.proofs.PlanLaws.{contact_there, contact_inv, contacts_length}
use Rattle.walks.proofs.WalkLaws.{StepBy, step_inv, step_intro, step_position, run_append}
use Rattle.plan.specs.declared.Contact as plan
use Rattle.plan.specs.Record.{contact_of}
use Rattle.ways.specs.declared.Pair.{Pair}
use Rattle.ways.specs.declared.Spot.{Spot}
use Rattle.std.specs.Prelude.{Option as Answer, Some, None}
use Rattle.ways.specs.Prefix.{end_after}
use Rattle.ways.specs.Found.{spot_of, end_of, found_of, terms_in, plan_in, serves_at, first_from, Searchable}
use Rattle.ways.proofs.SearchLaws.{search_finds, search_passes, search_ends}
use Rattle.ways.proofs.PrefixLaws.{end_nil, end_snoc, step_inside}

-- an option without a value is none
no_value : {A : Type 0} (o : Option A) → ((a : A) → o ≡ some a → ⊥) → none ≡ o
no_value none n = refl
no_value (some a) n = absurd (n a refl)

-- ---- a step

module _ (bs : List ℕ) (n t : ℕ) (terms : Terms) (x : Appearance) (i : ℕ) where
  -- there is no such record
  pub step_past : length bs / 6 ≤ i → none ≡ step (plan_of bs n t terms) x i
  unfolding records
  step_past h =
      no_value _ (λ y e.
      let inside = step_position (plan_of bs n t terms) x i e in
      let size = contacts_length bs n t terms in
      omega arith)

  module _ (r : plan.Contact) (read : contact_of r ≡ contact_at bs i) (there : i < length bs / 6) where
    -- the contact of a step is the record that was read
    contact_read : {y : Appearance} (s : StepBy (plan_of bs n t terms) x i y) → s.contact ≡ contact_of r
    contact_read s = sym (contact_inv bs n t terms i s.contact s.at_position).1 ∙ sym read

    -- from a station that is not its sender it leads nowhere
    pub step_from_none : x.station ≢ r.sender → none ≡ step (plan_of bs n t terms) x i
    step_from_none other =
        no_value _ (λ y e.
        let s = step_inv (plan_of bs n t terms) x i e in
        let leads = ap (λ (c : Contact). leads_to c x.station) (sym (contact_read s)) ∙ s.leads in
        let nowhere = leads_none (contact_of r) x.station other in
        let z : ◌≡◌ {A = ℕ} 0 1 = cc in
        omega arith)

    module _ (b : Bool) (test : (p : Plan) → p.terms ≡ terms → b ≡ may_follow p x.slot r.slot) where
      test_here : b ≡ may_follow (plan_of bs n t terms) x.slot r.slot
      unfolding plan_of
      test_here = test (plan_of bs n t terms) refl

      -- the record may not follow
      pub step_waits : b ≡ false → none ≡ step (plan_of bs n t terms) x i
      step_waits h =
          no_value _ (λ y e.
          let s = step_inv (plan_of bs n t terms) x i e in
          let follows =
          ap (λ (c : Contact). may_follow (plan_of bs n t terms) x.slot c.slot) (sym (contact_read s)) ∙ s.follows in
          not_both follows (sym test_here ∙ h))

      -- from its sender to its hearer
      pub step_from_sender : b ≡ true → x.station ≡ r.sender
          → some (record { station = r.hearer; slot = r.slot }) ≡ step (plan_of bs n t terms) x i
      unfolding records
      step_from_sender h at =
          sym (step_intro (plan_of bs n t terms) x i (record {
            contact = contact_of r;
            at_position = contact_there bs n t terms i there ∙ ap some (sym read);
            same_slot_law = refl;
            follows = sym test_here ∙ h;
            leads = ap (leads_to (contact_of r)) at ∙ leads_from_sender (contact_of r);
          }))

-- ---- a walk along a buffer

-- where a beginning leads nowhere, so does the whole
end_off : (p : Plan) (x : Appearance) (u w : List ℕ) → end_after p x u ≡ none → end_after p x (u ++ w) ≡ none
unfolding end_after bind
end_off p x u w e = rw run_append (go (run p x u) e)
  where
    go : (o : Option (List Appearance)) → map (last_or x) o ≡ none
        → map (last_or x) (bind o (λ l. map (◌++◌ l) (run p (last_or x l) w))) ≡ none
    go none e = refl
    go (some l) e = absurd (let z : ◌≡◌ {A = ℕ} 0 1 = cc in omega arith)

-- the first i of k entries lead from x₀ to x
pub record Walking (bs : List ℕ) (terms : Terms) (way : List ℕ) (x₀ : Spot) (k i : ℕ) (x : Spot) : Type 0 where
  pub within : i ≤ k
  pub there : (n t : ℕ) → end_after (plan_of bs n t terms) (spot_of x₀) (take i way) ≡ some (spot_of x)

module _ (bs : List ℕ) (terms : Terms) (way : List ℕ) (x₀ : Spot) (k : ℕ) where
  -- no entry leads to where it began
  pub walking_none : Walking bs terms way x₀ k 0 x₀
  walking_none = record { within = omega arith; there = λ n t. end_nil (plan_of bs n t terms) (spot_of x₀) }

  module _ (i : ℕ) (x : Spot) (s : Walking bs terms way x₀ k i x) (more : i < k) (room : k ≤ length way) (r : Answer Spot) (j : ℕ)
      (entry : j ≡ get_or way i 0) (answer : (n t : ℕ) → end_of r ≡ step (plan_of bs n t terms) (spot_of x) j) where
    -- one entry more
    one_more : (n t : ℕ) → end_after (plan_of bs n t terms) (spot_of x₀) (take (suc i) way) ≡ end_of r
    unfolding bind
    one_more n t =
        ap (end_after (plan_of bs n t terms) (spot_of x₀)) (take-suc way i 0 (omega arith))
        ∙ end_snoc (plan_of bs n t terms) (spot_of x₀) (take i way) (get_or way i 0)
        ∙ rw (s.there n t) (rw (← entry) (sym (answer n t)))

    -- an entry that leads on
    pub walking_more : (y : Spot) → r ≡ Some y → Walking bs terms way x₀ k (i + 1) y
    unfolding end_of
    walking_more y e =
        record { within = omega arith; there = λ n t. rw add-one (one_more n t ∙ ap end_of e) }

    -- an entry that leads nowhere: so do all k
    pub walking_off : r ≡ None → (n t : ℕ)
        → end_of None ≡ end_after (plan_of bs n t terms) (spot_of x₀) (take k way)
    unfolding end_of
    walking_off e n t =
        let whole : k ≡ suc i + (k - suc i) = omega arith in
        sym (ap (λ m. end_after (plan_of bs n t terms) (spot_of x₀) (take m way)) whole
        ∙ ap (end_after (plan_of bs n t terms) (spot_of x₀)) (take-add (suc i) (k - suc i) way)
        ∙ end_off (plan_of bs n t terms) (spot_of x₀) (take (suc i) way) _ (one_more n t ∙ ap end_of e))

  -- no entry is left
  pub walking_end : (i : ℕ) (x : Spot) → Walking bs terms way x₀ k i x → k ≤ i
      → (n t : ℕ) → end_of (Some x) ≡ end_after (plan_of bs n t terms) (spot_of x₀) (take k way)
  unfolding end_of
  walking_end i x s past n t =
      let whole : i ≡ k = let h = s.within in omega arith in
      sym (ap (λ m. end_after (plan_of bs n t terms) (spot_of x₀) (take m way)) (sym whole) ∙ s.there n t)

-- ---- a position that serves

module _ (bs : List ℕ) (q : Pair) (l : List ℕ) (x : Spot) (need i : ℕ) (r : Answer Spot)
    (answer : (n t : ℕ) → end_of r ≡ step (plan_of bs n t (terms_in q)) (spot_of x) i) where
  -- a position that leads nowhere does not serve
  pub serves_nowhere : r ≡ None → false ≡ serves_at (plan_in bs q) l (q.slots + 1) (spot_of x) need i
  unfolding serves_at holds end_of
  serves_nowhere e = rw (← answer q.stations q.slots, e)

  module _ (y : Spot) (e : r ≡ Some y) where
    -- one that leads to y serves where the entry of y is the number
    pub serves_there :
        eqb (get_or l (y.station * (q.slots + 1) + y.slot) 0) need
        ≡ serves_at (plan_in bs q) l (q.slots + 1) (spot_of x) need i
    unfolding serves_at holds end_of
    serves_there = rw (← answer q.stations q.slots, e)

    -- its entry lies within the table
    pub serves_room : Searchable bs q l → y.station * (q.slots + 1) + y.slot < length l
    unfolding end_of
    serves_room s =
        let steps : step (plan_in bs q) (spot_of x) i ≡ some (spot_of y) =
        sym (answer q.stations q.slots) ∙ ap end_of e in
        let (station, slot) = step_inside bs q.stations q.slots (terms_in q) s.accepted (spot_of x) i steps in
        let place : y.station * (q.slots + 1) + y.slot < q.stations * (q.slots + 1) =
        digits_lt station (omega arith) in
        let fits = s.table.fits in
        omega arith

-- ---- a search

module _ (bs : List ℕ) (f : ℕ → Bool) (from i m : ℕ) (rest : first_from f from (m - from) ≡ first_from f i (m - i)) where
  -- a position that does not serve is passed over
  pub search_on : i < m → f i ≡ false → first_from f from (m - from) ≡ first_from f (i + 1) (m - (i + 1))
  search_on h e = rest ∙ search_passes f i m h e

  -- no position is left
  pub search_nothing : m ≡ length bs / 6 → m ≤ i → found_of None ≡ first_from f from (records bs - from)
  unfolding found_of records
  search_nothing size h = rw (← size) (sym (rest ∙ search_ends f i m h))

  -- a position that serves is found
  pub search_here : m ≡ length bs / 6 → i < m → f i ≡ true → found_of (Some i) ≡ first_from f from (records bs - from)
  unfolding found_of records
  search_here size h e = rw (← size) (sym (rest ∙ search_finds f i m h e))
