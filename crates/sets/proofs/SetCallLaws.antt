-- The operation on a pair and a set as document 02 has it, from what the pass leaves. Assumes nothing.
use Prim.Native.Nat.{ℕ, ◌+◌, ◌-◌, ◌*◌, ◌<◌, ◌≤◌}
use native.Mathlib.Omega.{arith}
use native.Mathlib.Decide.{ℕ_discrete}
use mathlib.Core.Path.{◌≡◌, refl, sym, ap, ap₂, subst, ◌∙◌}
use mathlib.Core.Bool.{Bool, true, false}
use mathlib.Core.List.{List, [], ◌∷◌}
use mathlib.Core.Logic.{◌≢◌, by_cases, ⊎_elim}
use borrow.Author.Tests.{lt-ltb, ltb-true, eq-eqb, ne_eqb}
use lib.Dec.{ltb}
use lib.ListN.{length, get_or, take, replicate}
use Rattle.std.proofs.lemmas.List.{length-take-le, get_or-take}
use Rattle.entries.proofs.SearchLaws.{any_by}
use Rattle.temporal.specs.Plan.{Terms, Allowed}
use Rattle.temporal.specs.Shortest.{shortest_walks_to, hops}
use Rattle.temporal.specs.Set.{touched}
use Rattle.temporal.specs.Bytes.{plan_of}
use Rattle.temporal.specs.Cause.{cause, first, plan_fault}
use Rattle.temporal.specs.Outcome.{Outcome, entered, over, cleared, work_size}
use Rattle.temporal.specs.OutcomeSet.{is_member, wrong_set, set_causes, set_counted, through_set}
use Rattle.walks.proofs.Accepted.{accepted}
use Rattle.walks.proofs.Adequacy.{few_hops}
use Rattle.lists.proofs.BufferLaws.{fill_beyond, later_drop}
use Rattle.temporal.proofs.CauseLaws.{first_append_none, first_append_some, first_true, first_false}
use Rattle.walks.proofs.EnteredLaws.{entered_plan, entered_call, unless_some, unless_none, refused_with}
use Rattle.walks.proofs.SetLaws.{touched_empty}
use Rattle.walks.proofs.ShortestLaws.{hops_empty}
use Rattle.plan.specs.Fault.{plan_number, call_number, check_number}
use Rattle.plan.specs.declared.PlanFault.{PlanFault}
use Rattle.plan.specs.declared.CallFault.{CallFault}
use Rattle.plan.proofs.Answers.{number-positive, call-number-within}
use Rattle.std.specs.Prelude.{Result, Ok, Err, IsTrue, SomeIndex, ◌↔◌}
use Rattle.calls.specs.Call.{pair_call_fault, call_check_number}
use Rattle.calls.proofs.CallLaws.{free_call}
use Rattle.forward.specs.Passed.{pass_size, Counted, SetReady, SetPassed}
use Rattle.forward.proofs.SizeLaws.{small_fits, first_part}
use Rattle.sets.specs.Work.{SetAsked, touched_entry, Readable}

-- ---- reading the entry

module _ (work : List ℕ) (n z : ℕ) where
  pub entry_none : get_or work z 0 ≡ 65535 → touched_entry work n z ≡ 0
  unfolding touched_entry
  entry_none e = rw (eq-eqb (get_or work z 0) 65535 e)

  pub entry_some : get_or work z 0 ≢ 65535 → touched_entry work n z ≡ get_or work (n + z) 0 - get_or work (2 * n + z) 0
  unfolding touched_entry
  entry_some e = rw (ne_eqb (get_or work z 0) 65535 e)

-- ---- the search of the bytes

-- an answer that is true exactly where one of the first n bytes is above 1
pub wrong_by :
    (set : List ℕ) (n : ℕ) → n ≤ length set → (b : Bool) →
    (IsTrue b ↔ SomeIndex (take n set) (λ k. 1 < get_or (take n set) k 0)) → b ≡ wrong_set n set
unfolding wrong_set
wrong_by set n room b h =
    let size = length-take-le n set room in
    any_by (λ v. ltb 1 (get_or set v 0)) n b (
      λ e.
          let some = h.0 e in
          let inside : some.0 < n = let low = some.1 in omega arith in
          (some.0, inside, lt-ltb 1 (get_or set some.0 0) (rw (get_or-take n set some.0 0 inside) at some.2)),
      λ some.
          h.1
          (some.0, let low = some.1 in omega arith, rw (get_or-take n set some.0 0 some.1) (ltb-true 1 (get_or set some.0 0) some.2)),
    )

-- ---- the work

-- the pass's part lies within the work area
few_rows : (bs : List ℕ) (n t : ℕ) (terms : Terms) → plan_fault bs n t ≡ 0 → Allowed terms
    → pass_size n t terms terms.keeping 1 ≤ work_size n t
few_rows bs n t terms ok units =
    let a = accepted bs n t ok in
    small_fits n t terms 1 units a.some_station a.some_slot a.slots (omega arith)

module _ (bs : List ℕ) (n t : ℕ) (terms : Terms) (s z : ℕ) (set area : List ℕ) (asked : SetAsked bs n t terms s z set area) (area' : List ℕ) (r : Bool)
    (f : SetPassed bs n t terms s z set area area' r) where
  cleared_area : (area'' : List ℕ) → area'' ≡ over (replicate (work_size n t) 0) area' → area'' ≡ cleared (work_size n t) area
  unfolding cleared
  cleared_area area'' e =
      e ∙ fill_beyond (work_size n t) 0 area' area (later_drop (pass_size n t terms terms.keeping 1) (work_size n t) area' area
      (few_rows bs n t terms asked.accepted asked.units) f.beyond)

  module _ (none : r ≡ false) where
    c : Counted bs n t terms s 0 0 area'
    c = f.counted none

    -- hops that are not 65535 are fewer
    with_path : get_or area' z 0 ≢ 65535 → hops (shortest_walks_to (plan_of bs n t terms) s z) < 65535
    with_path ne =
        ⊎_elim
        (λ empty. absurd (ne (c.station_hops_law z asked.destination ∙ hops_empty _ empty)))
        (λ h. h)
        (few_hops bs n t terms s z asked.accepted)

    -- what reading the entry asks
    pub readable : Readable n z area'
    readable =
        let a = accepted bs n t asked.accepted in
        record {
          station = asked.destination;
          few = a.stations;
          fits = let room = asked.area in let rows = few_rows bs n t terms asked.accepted asked.units in
              let first = first_part n t terms terms.keeping 1 in let same = f.same_length in omega arith;
          at_most = λ some.
              let number = c.station_counts_law z asked.destination in
              let parts = f.members none (with_path some) in
              omega arith;
        }

    -- the entry is the number of walks that a member touches
    entry_touched : touched_entry area' n z ≡ touched (plan_of bs n t terms) s z (is_member set)
    entry_touched =
        by_cases (ℕ_discrete (get_or area' z 0) 65535)
        (λ far. entry_none area' n z far ∙ sym (no_path far))
        (λ some.
        let number = c.station_counts_law z asked.destination in
        let parts = f.members none (with_path some) in
        entry_some area' n z some ∙ omega arith)
      where
        no_path : get_or area' z 0 ≡ 65535 → touched (plan_of bs n t terms) s z (is_member set) ≡ 0
        no_path far =
            ⊎_elim
            (λ empty. touched_empty (plan_of bs n t terms) s z (is_member set) empty)
            (λ some. let same = c.station_hops_law z asked.destination in absurd (omega arith))
            (few_hops bs n t terms s z asked.accepted)

  -- too many
  pub counted_refused :
      r ≡ true → (area'' : List ℕ) → area'' ≡ over (replicate (work_size n t) 0) area' →
      ◌≡◌ {A = Outcome ℕ (List ℕ)} (record { number = 9; values = 0; buffers = area'' })
      (set_counted (plan_of bs n t terms) s z set area)
  unfolding set_counted plan_of
  counted_refused e area'' c =
      let many = sym f.too_many ∙ e in
      rw many (ap (λ l. record { number = 9; values = 0; buffers = l }) (cleared_area area'' c))

  pub counted_found :
      r ≡ false → (k : ℕ) (area'' : List ℕ) → k ≡ touched_entry area' n z → area'' ≡ over (replicate (work_size n t) 0) area' →
      ◌≡◌ {A = Outcome ℕ (List ℕ)} (record { number = 0; values = k; buffers = area'' })
      (set_counted (plan_of bs n t terms) s z set area)
  unfolding set_counted plan_of
  counted_found e k area'' found c =
      let few = sym f.too_many ∙ e in
      rw few
      (ap₂ (λ v l. record { number = 0; values = v; buffers = l }) (found ∙ entry_touched e) (cleared_area area'' c))

-- what the pass asks
pub pass_ready :
    (bs : List ℕ) (n t : ℕ) (terms : Terms) (s z : ℕ) (set area : List ℕ) → SetAsked bs n t terms s z set area → SetReady bs n t terms s z area
pass_ready bs n t terms s z set area asked =
    record {
      accepted = asked.accepted;
      units = asked.units;
      source = asked.source;
      destination = asked.destination;
      fits = let room = asked.area in omega (arith, few_rows bs n t terms asked.accepted asked.units);
    }

-- ---- how the operation begins

none_first : first [] ≡ 0
unfolding first
none_first = refl

module _ (bs : List ℕ) (n t : ℕ) (terms : Terms) (s z : ℕ) (set area : List ℕ) where
  work : Outcome ℕ (List ℕ)
  work = set_counted (plan_of bs n t terms) s z set area

  -- a plan that check refuses
  pub set_plan :
      (r : Result (Unit {0}) PlanFault) (f : PlanFault) → check_number r ≡ plan_fault bs n t → r ≡ Err f →
      ◌≡◌ {A = Outcome ℕ (List ℕ)} (record { number = plan_number f; values = 0; buffers = area })
      (through_set bs n t terms s z set area)
  unfolding through_set work
  set_plan r f answer e =
      let number : plan_number f ≡ plan_fault bs n t = ap check_number (sym e) ∙ answer in
      let some = number-positive f in
      ap (refused_with 0 area work) number ∙ sym (entered_plan 0 area work bs n t _ (omega arith))

  module _ (ok : plan_fault bs n t ≡ 0) where
    module _ (r : Result (Unit {0}) CallFault) (answer : call_check_number r ≡ pair_call_fault n t terms s z (length set) n (length area)) where
      -- 12, 14, 6, 7 or 8
      pub set_call :
          (f : CallFault) → r ≡ Err f →
          ◌≡◌ {A = Outcome ℕ (List ℕ)} (record { number = call_number f; values = 0; buffers = area })
          (through_set bs n t terms s z set area)
      unfolding through_set entered set_causes pair_call_fault work
      set_call f e =
          let number : call_number f ≡ pair_call_fault n t terms s z (length set) n (length area) = ap call_check_number (sym e) ∙ answer in
          let some = (call-number-within f).0 in
          let first_there = first_append_some _ (cause 11 (wrong_set n set) ∷ []) (subst (λ k. 0 < k) number some) in
          ap (refused_with 0 area work) (number ∙ sym first_there) ∙
          sym (entered_call 0 area work bs n t _ ok ∙ unless_some _ _ _ (omega arith))

      -- none of them
      pub set_asked : r ≡ Ok tt → SetAsked bs n t terms s z set area
      set_asked e =
          let f = free_call n t terms s z (length set) n (length area) (sym answer ∙ ap call_check_number e) in
          record {
            accepted = ok;
            free = sym answer ∙ ap call_check_number e;
            units = f.units;
            source = f.source;
            destination = f.destination;
            different = f.different;
            set_room = f.lent_room;
            area = f.area_room;
          }

  module _ (asked : SetAsked bs n t terms s z set area) where
    -- 11
    pub set_byte :
        wrong_set n set ≡ true →
        ◌≡◌ {A = Outcome ℕ (List ℕ)} (record { number = 11; values = 0; buffers = area }) (through_set bs n t terms s z set area)
    unfolding through_set entered set_causes pair_call_fault work
    set_byte e =
        let number : first (set_causes n t terms s z set area) ≡ 11 = first_append_none _ _ asked.free ∙ first_true 10 _ [] e in
        ap (refused_with 0 area work) (sym number) ∙
        sym (entered_call 0 area work bs n t _ asked.accepted ∙ unless_some _ _ _ (omega arith))

    pub set_works : wrong_set n set ≡ false → through_set bs n t terms s z set area ≡ set_counted (plan_of bs n t terms) s z set area
    unfolding through_set entered set_causes pair_call_fault work
    set_works e =
        let number : first (set_causes n t terms s z set area) ≡ 0 =
        first_append_none _ _ asked.free ∙ first_false 11 (wrong_set n set) [] e ∙ none_first in
        entered_call 0 area work bs n t _ asked.accepted ∙ unless_none _ _ _ number
