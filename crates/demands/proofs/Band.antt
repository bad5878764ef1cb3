-- C-22 holds of every run of takings in and out. Assumes nothing.
use Rattle.plan.specs.Fault.{answer_number}
use Rattle.std.specs.Prelude.{Result, Ok, Err}
use Prim.Native.Nat.{ℕ, zero, suc, ◌+◌, ◌-◌, ◌≤◌, ◌<◌}
use native.Mathlib.Omega.{arith}
use mathlib.Core.Path.{◌≡◌, refl, sym, ap, subst, ◌∙◌}
use mathlib.Core.Bool.{Bool, true, false, cond}
use mathlib.Core.List.Memᴰ
use mathlib.Core.List.{List, [], ◌∷◌, ◌++◌, Memᴰ, append_assoc}
use mathlib.Core.Logic.{⊎_elim, ◌↔◌, ◌≢◌}
use borrow.Author.Tests.{ltb-true, ltb-false, lt-ltb, le-ltb}
use lib.ListN.{get_or, replicate}
use Rattle.temporal.specs.Lists.{sum, below}
use Rattle.temporal.specs.Cause.{cause, first, unless, plan_causes}
use Rattle.temporal.specs.Outcome.{Outcome, entered, short}
use Rattle.temporal.specs.Cursor.{same_numbers}
use Rattle.temporal.specs.Band.{records_in, band_slots, taken_in, taken_out, over_band, under_band, take_in, take_out}
use Rattle.lists.proofs.BufferLaws.{written, same_numbers_law}
use Rattle.temporal.proofs.CauseLaws.{
  first_append_none,
  first_append_some,
  first_append_right,
  first_head,
  first_tail,
  first_true,
  first_false,
}
use Rattle.walks.proofs.EnteredLaws.{unless_some, no_first, no_cause}
use Rattle.lists.proofs.ListLaws.{true_or_false, not_both, by_member, mem_below, any_true, any_false}
use Rattle.walks.proofs.NumberLaws.{none_has, cause_has, append_has, plan_has}
use Rattle.plan.specs.Fault.{plan_number, call_number}
use Rattle.plan.specs.declared.PlanFault.{PlanFault}
use Rattle.plan.specs.declared.PlanFault.TheVariants as plan-fault
use Rattle.plan.specs.declared.CallFault.{CallFault}
use Rattle.plan.specs.declared.CallFault.TheVariants as call-fault
use Rattle.plan.specs.declared.Fault.{Fault}
use Rattle.plan.specs.declared.Fault.TheVariants as fault
use Rattle.plan.proofs.Answers.{fault-number-within}
use Rattle.band.specs.Answer.{band_outcome}
use Rattle.demands.specs.Band.{
  BandCall,
  BandEvent,
  took_in,
  took_out,
  without,
  in_after_in,
  in_after_out,
  BandRun,
  used_by,
  Used,
  earlier,
  Passes,
  RunHolds,
  EveryCallAnswered,
  BandDemand,
}

none_first : first [] ≡ 0
unfolding first
none_first = refl

-- ---- numbers that some answer has

abbrev Named : ℕ → Type 0
Named k = (r : Result (Unit {0}) Fault) × (answer_number r ≡ k)

no_fault : Named 0
no_fault = (Ok tt, refl)

named_plan : (f : PlanFault) → Named (plan_number f)
named_plan f = (Err (fault.Plan f), refl)

named_call : (f : CallFault) → Named (call_number f)
named_call f = (Err (fault.Call f), refl)

-- ---- one call: 1 to 5 and 8, then its own cause, then the work

module _ (k : BandCall) (table : List ℕ) (m : ℕ) (large : 9 ≤ m) (holds : Bool) (new : List ℕ) where
  abbrev plan : List ℕ
  plan = plan_causes k.bytes k.stations k.slots

  abbrev early : List ℕ
  early = plan ++ (cause 8 (short band_slots table) ∷ [])

  abbrev causes : List ℕ
  causes = plan ++ (cause 8 (short band_slots table) ∷ cause (suc m) holds ∷ [])

  -- the first of 1 to 5 and 8 is no larger number
  early_other : (x : ℕ) → 9 ≤ x → first early ≢ x
  early_other x h =
      append_has (λ i. i ≢ x) (λ e. omega arith) plan _
      (plan_has (λ i. i ≢ x) (λ e. omega arith) (λ e. omega arith) (λ e. omega arith) (λ e. omega arith) (λ e. omega arith)
      (λ e. omega arith) k.bytes k.stations k.slots)
      (cause_has (λ i. i ≢ x) (λ e. omega arith) 8 _ [] (λ e. omega arith) (none_has (λ i. i ≢ x) (λ e. omega arith)))

  split : first causes ≡ first (early ++ (cause (suc m) holds ∷ []))
  split = ap first (sym (append_assoc plan (cause 8 (short band_slots table) ∷ []) (cause (suc m) holds ∷ [])))

  -- its own number comes exactly where its own cause holds and none of the others
  own : (first causes ≡ suc m) ↔ ((first early ≡ 0) × (holds ≡ true))
  own = (forth (first early) refl, back)
    where
      forth : (k : ℕ) → first early ≡ k → first causes ≡ suc m → (first early ≡ 0) × (holds ≡ true)
      forth zero q e = (
        q,
        ⊎_elim
            (λ holding. holding)
            (λ not.
            let none = first_append_none early (cause (suc m) holds ∷ []) q in
            let passed = first_false (suc m) holds [] not in
            let nothing = none_first in
            let whole = split in
            absurd (omega arith))
            (true_or_false holds),
      )
      forth (suc k) q e =
          let some = first_append_some early (cause (suc m) holds ∷ []) (omega arith) in
          absurd (early_other (suc m) (omega arith) (sym some ∙ sym split ∙ e))

      back : (first early ≡ 0) × (holds ≡ true) → first causes ≡ suc m
      back (q, is) = split ∙ first_append_none early _ q ∙ first_true m holds [] is

  -- and no other number above 8 comes
  no_other : (x : ℕ) → 9 ≤ x → x ≢ suc m → first causes ≢ x
  no_other x h other e =
      append_has (λ i. i ≢ x) (λ e. omega arith) early (cause (suc m) holds ∷ []) (early_other x h)
      (cause_has (λ i. i ≢ x) (λ e. omega arith) (suc m) holds [] (λ q. other (sym q)) (none_has (λ i. i ≢ x) (λ e. omega arith)))
      (sym split ∙ e)

  outcome : Outcome (Unit {0}) (List ℕ)
  outcome = entered causes tt table (record { number = 0; values = tt; buffers = new })

  outcome_number : outcome.number ≡ first causes
  unfolding outcome entered unless
  outcome_number = decide (first causes)
    where
      decide : (k : ℕ)
          → (unless {A = Outcome (Unit {0}) (List ℕ)} k (λ j. record { number = j; values = tt; buffers = table })
          (record { number = 0; values = tt; buffers = new })).number ≡ k
      decide zero = refl
      decide (suc k) = refl

  -- some answer has this outcome, where one has its own number
  some_answer : Named (suc m) → (r : Result (Unit {0}) Fault) × (after : List ℕ) × (band_outcome r after ≡ outcome)
  some_answer mine =
      let (r, e) =
      append_has Named no_fault plan _ (plan_has Named no_fault (named_plan plan-fault.Limits) (named_plan plan-fault.Length)
      (named_plan plan-fault.Slot) (named_plan plan-fault.Ends) (named_plan plan-fault.Order) k.bytes k.stations k.slots)
      (cause_has Named no_fault 8 _ _ (named_call call-fault.Short)
      (cause_has Named no_fault (suc m) holds [] mine (none_has Named no_fault))) in
      (r, outcome.buffers, ap (λ x. record { number = x; values = tt; buffers = outcome.buffers }) (e ∙ sym outcome_number))

  module _ (after : List ℕ) where
    abbrev Met : Result (Unit {0}) Fault → Type 0
    Met r = band_outcome r after ≡ outcome

    met_number : (r : Result (Unit {0}) Fault) → Met r → answer_number r ≡ first causes
    met_number r e = ap (λ o. o.number) e ∙ outcome_number

    -- an accepted call
    met_free : Met (Ok tt) → holds ≡ false
    unfolding outcome
    met_free e =
        first_head m holds [] (first_tail 7 _ _ (first_append_right plan _ (no_first causes tt tt table after _ e)))

    met_new : Met (Ok tt) → after ≡ new
    unfolding outcome
    met_new e = ap (λ o. o.buffers) (no_cause causes tt tt table after _ e)

    -- a refused call
    met_old : (f : Fault) → Met (Err f) → after ≡ table
    unfolding outcome entered
    met_old f e =
        let some = (fault-number-within f).0 in
        let number = met_number (Err f) e in
        ap (λ o. o.buffers) (e ∙ unless_some (first causes) _ _ (omega arith))

-- ---- the plans in

-- a plan that is in, and the others
used_without : (bs : List ℕ) (ins : List (List ℕ)) → Memᴰ bs ins → (u : ℕ)
    → used_by ins u ≡ records_in bs u + used_by (without bs ins) u
unfolding used_by without sum
used_without bs [] there u = absurd (Memᴰ.not-nil there)
used_without bs (p ∷ l) there u = decide (same_numbers bs p) refl (λ m. used_without bs l m u)
  where
    decide : (b : Bool) → same_numbers bs p ≡ b
        → (Memᴰ bs l → used_by l u ≡ records_in bs u + used_by (without bs l) u)
        → records_in p u + used_by l u ≡ records_in bs u + used_by (cond b l (p ∷ without bs l)) u
    decide true q rest = let same = ap (λ x. records_in x u) ((same_numbers_law bs p).0 q) in omega arith
    decide false q rest =
        let other = by_member there (λ e. absurd (not_both ((same_numbers_law bs p).1 e) q)) rest in omega arith

-- ---- one step of a run

module _ (c : ℕ) (ins : List (List ℕ)) (table : List ℕ) (right : Used c ins table) (k : BandCall) (after : List ℕ) where
  -- the entries as the plans in say them
  with_new : (j : ℕ) → j < band_slots → get_or table j 0 + records_in k.bytes (j + 1) ≡ used_by (k.bytes ∷ ins) (j + 1)
  unfolding used_by sum
  with_new j h = let e = right.entry j h in omega arith

  over_passes : (over_band k.bytes c table ≡ true) ↔ Passes c ins k.bytes
  unfolding over_band
  over_passes = (
    λ e. let (j, there, test) = (any_true _ (below band_slots)).0 e in
        let inside = (mem_below band_slots).0 there in
        (j, inside, subst (λ x. c < x) (with_new j inside) (ltb-true c _ test)),
    λ (j, inside, more). (any_true _ (below band_slots)).1
        (j, (mem_below band_slots).1 inside, lt-ltb c _ (subst (λ x. c < x) (sym (with_new j inside)) more)),
  )

  module _ (r : Result (Unit {0}) Fault) (e : band_outcome r after ≡ take_in k.bytes k.stations k.slots c table) where
    fifteen : (answer_number r ≡ 15) ↔ ((earlier k table ≡ 0) × Passes c ins k.bytes)
    unfolding take_in earlier outcome
    fifteen =
        let number = met_number k table 14 (omega arith) (over_band k.bytes c table) _ after r e in
        let both = own k table 14 (omega arith) (over_band k.bytes c table) (taken_in k.bytes table) in (
          λ q. let (none, is) = both.0 (sym number ∙ q) in (none, over_passes.0 is),
          λ (none, passes). number ∙ both.1 (none, over_passes.1 passes),
        )

    in_not_sixteen : answer_number r ≢ 16
    unfolding take_in outcome
    in_not_sixteen q =
        let number = met_number k table 14 (omega arith) (over_band k.bytes c table) _ after r e in
        no_other k table 14 (omega arith) (over_band k.bytes c table) (taken_in k.bytes table) 16
        (omega arith) (omega arith) (sym number ∙ q)

  used_in : (r : Result (Unit {0}) Fault) → band_outcome r after ≡ take_in k.bytes k.stations k.slots c table
      → Used c (in_after_in k.bytes r ins) after
  unfolding take_in taken_in over_band in_after_in outcome
  used_in (Ok x) e =
      let free = met_free k table 14 (omega arith) (over_band k.bytes c table) _ after e in
      let is = met_new k table 14 (omega arith) (over_band k.bytes c table) _ after e in
      let entry : (j : ℕ) → j < band_slots → get_or after j 0 ≡ get_or table j 0 + records_in k.bytes (j + 1) =
      λ j h. ap (λ l. get_or l j 0) is ∙ written (λ i. get_or table i 0 + records_in k.bytes (i + 1)) band_slots j table h in
      record {
        entry = λ j h. entry j h ∙ with_new j h;
        at_most = λ j h.
            let few = ltb-false c _ ((any_false _ (below band_slots)).0 free j ((mem_below band_slots).1 h)) in
            rw (entry j h) few;
      }
  used_in (Err f) e =
      subst (Used c ins)
      (sym (met_old k table 14 (omega arith) (over_band k.bytes c table) _ after f e)) right

  module _ (there : Memᴰ k.bytes ins) where
    -- the plan's records are among those that the entries count
    enough : (j : ℕ) → j < band_slots → get_or table j 0 ≡ records_in k.bytes (j + 1) + used_by (without k.bytes ins) (j + 1)
    enough j h = right.entry j h ∙ used_without k.bytes ins there (j + 1)

    not_under : under_band k.bytes table ≡ false
    unfolding under_band
    not_under =
        (any_false _ (below band_slots)).1
        (λ j m. let all = enough j ((mem_below band_slots).0 m) in le-ltb (get_or table j 0) (records_in k.bytes (j + 1)) (omega arith))

    module _ (r : Result (Unit {0}) Fault) (e : band_outcome r after ≡ take_out k.bytes k.stations k.slots table) where
      out_not_fifteen : answer_number r ≢ 15
      unfolding take_out outcome
      out_not_fifteen q =
          let number = met_number k table 15 (omega arith) (under_band k.bytes table) _ after r e in
          no_other k table 15 (omega arith) (under_band k.bytes table) (taken_out k.bytes table) 15
          (omega arith) (omega arith) (sym number ∙ q)

      sixteen_never : answer_number r ≢ 16
      unfolding take_out outcome
      sixteen_never q =
          let number = met_number k table 15 (omega arith) (under_band k.bytes table) _ after r e in
          let both = own k table 15 (omega arith) (under_band k.bytes table) (taken_out k.bytes table) in
          not_both (both.0 (sym number ∙ q)).1 not_under

    used_out : (r : Result (Unit {0}) Fault) → band_outcome r after ≡ take_out k.bytes k.stations k.slots table
        → Used c (in_after_out k.bytes r ins) after
    unfolding take_out taken_out in_after_out outcome
    used_out (Ok x) e =
        let is = met_new k table 15 (omega arith) (under_band k.bytes table) _ after e in
        let entry : (j : ℕ) → j < band_slots → get_or after j 0 ≡ get_or table j 0 - records_in k.bytes (j + 1) =
        λ j h. ap (λ l. get_or l j 0) is ∙ written (λ i. get_or table i 0 - records_in k.bytes (i + 1)) band_slots j table h in
        record {
          entry = λ j h. let all = enough j h in entry j h ∙ omega arith;
          at_most = λ j h. let most = right.at_most j h in rw (entry j h) (omega arith);
        }
    used_out (Err f) e =
        subst (Used c ins)
        (sym (met_old k table 15 (omega arith) (under_band k.bytes table) _ after f e)) right

-- ---- runs

run_holds : (c : ℕ) (ins : List (List ℕ)) (table : List ℕ) (es : List BandEvent) → Used c ins table → BandRun c ins table es
    → RunHolds c ins table es
unfolding BandRun RunHolds
run_holds c ins table [] right run = right
run_holds c ins table (took_in k r after ∷ es) right (e, rest) = (
  right,
  fifteen c ins table right k after r e,
  in_not_sixteen c ins table right k after r e,
  run_holds c (in_after_in k.bytes r ins) after es (used_in c ins table right k after r e) rest,
)
run_holds c ins table (took_out k r after ∷ es) right (there, e, rest) = (
  right,
  out_not_fifteen c ins table right k after there r e,
  sixteen_never c ins table right k after there r e,
  run_holds c (in_after_out k.bytes r ins) after es (used_out c ins table right k after there r e) rest,
)

zeros : (size j : ℕ) → ◌≡◌ {A = ℕ} (get_or (replicate size 0) j 0) 0
zeros zero j = refl
zeros (suc size) zero = refl
zeros (suc size) (suc j) = zeros size j

every_call_answered : EveryCallAnswered
unfolding take_in take_out outcome
every_call_answered k table = (
  λ c. some_answer k table 14 (omega arith) (over_band k.bytes c table) (taken_in k.bytes table) (named_call call-fault.Channels),
  some_answer k table 15 (omega arith) (under_band k.bytes table) (taken_out k.bytes table) (named_call call-fault.Untaken),
)

-- C-22.
pub band_demand : BandDemand
unfolding used_by sum
band_demand =
    record {
      runs = λ c size es run.
          run_holds c [] (replicate size 0) es
          (record { entry = λ j h. zeros size j; at_most = λ j h. let none = zeros size j in omega arith }) run;
      goes_on = every_call_answered;
    }
