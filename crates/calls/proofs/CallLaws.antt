-- 12 and 14, and the first of 12, 14, 6, 7 and 8 of a call that names a pair, from comparisons of numbers. Assumes nothing.
use Prim.Native.Nat.{ℕ, ◌<◌, ◌≤◌}
use native.Mathlib.Omega.{arith}
use mathlib.Core.Path.{◌≡◌, refl, sym, ap, subst, ◌∙◌}
use mathlib.Core.Bool.{true, false, ◌||◌}
use mathlib.Core.Logic.{◌≢◌}
use mathlib.Core.List.{List, [], ◌∷◌, ◌++◌}
use borrow.Author.Tests.{lt-ltb, le-ltb, le-leb, lt-leb, eq-eqb, ne_eqb, ltb-false, leb-false, eqb-false}
use lib.Dec.{ltb, leb, eqb}
use Rattle.temporal.specs.Plan.{Terms, Allowed}
use Rattle.temporal.specs.Cause.{cause, first, plan_causes, plan_fault, wrong_turnaround, wrong_keeping, terms_causes, ends_causes, pair_causes}
use Rattle.temporal.specs.Outcome.{Outcome, entered, work_size}
use Rattle.walks.proofs.EnteredLaws.{refused_with, entered_call, entered_some}
use Rattle.calls.specs.Call.{stations_fault, pair_call_fault, call_check_number}
use Rattle.temporal.proofs.CauseLaws.{
  first_true,
  first_false,
  first_head,
  first_tail,
  first_append_none,
  first_append_some,
  first_append_left,
  first_append_right,
  or_false_left,
  or_false_right,
}
use Rattle.plan.specs.Fault.{call_number}
use Rattle.plan.specs.declared.CallFault.{CallFault}
use Rattle.plan.proofs.Answers.{call-number-within}
use Rattle.std.specs.Prelude.{Result, Ok, Err}

first_nothing : first [] ≡ 0
unfolding first
first_nothing = refl

-- ---- 12 and 14

module _ (terms : Terms) where
  pub terms_none : terms.turnaround ≡ 0 → wrong_turnaround terms ≡ true
  unfolding wrong_turnaround
  terms_none h = rw (eq-eqb terms.turnaround 0 h)

  pub terms_some : terms.turnaround ≢ 0 → ltb 16 terms.turnaround ≡ wrong_turnaround terms
  unfolding wrong_turnaround
  terms_some some = rw (ne_eqb terms.turnaround 0 some)

  pub keeping_less : terms.keeping < terms.turnaround → wrong_keeping terms ≡ true
  unfolding wrong_keeping
  keeping_less h = rw (lt-ltb terms.keeping terms.turnaround h)

  pub keeping_more : terms.turnaround ≤ terms.keeping → ltb 255 terms.keeping ≡ wrong_keeping terms
  unfolding wrong_keeping
  keeping_more h = rw (le-ltb terms.keeping terms.turnaround h)

  pub terms_turnaround : wrong_turnaround terms ≡ true → first (terms_causes terms) ≡ 12
  unfolding terms_causes
  terms_turnaround h = first_true 11 _ _ h

  module _ (right : wrong_turnaround terms ≡ false) where
    pub terms_keeping : wrong_keeping terms ≡ true → first (terms_causes terms) ≡ 14
    unfolding terms_causes
    terms_keeping h = first_false 12 _ _ right ∙ first_true 13 _ _ h

    pub terms_free : wrong_keeping terms ≡ false → first (terms_causes terms) ≡ 0
    unfolding terms_causes
    terms_free h = first_false 12 _ _ right ∙ first_false 14 _ _ h ∙ first_nothing

  -- terms without 12 and 14 are allowed
  pub terms_allowed : first (terms_causes terms) ≡ 0 → Allowed terms
  unfolding terms_causes wrong_turnaround wrong_keeping
  terms_allowed e =
      let turning = first_head 11 (eqb terms.turnaround 0 || ltb 16 terms.turnaround) _ e in
      let keeping = first_head 13 (ltb terms.keeping terms.turnaround || ltb 255 terms.keeping) _
      (first_tail 11 (eqb terms.turnaround 0 || ltb 16 terms.turnaround) _ e) in
      let some : terms.turnaround ≢ 0 = eqb-false terms.turnaround 0 (or_false_left _ _ turning) in
      record {
        turns = omega arith;
        keeps = ltb-false terms.keeping terms.turnaround (or_false_left _ _ keeping);
        most = ltb-false 255 terms.keeping (or_false_right (ltb terms.keeping terms.turnaround) _ keeping);
      }

-- neither holds where none was found
pub terms_free_by : (terms : Terms) (r : Result (Unit {0}) CallFault) → call_check_number r ≡ first (terms_causes terms) → r ≡ Ok tt → first (terms_causes terms) ≡ 0
terms_free_by terms r found e = sym found ∙ ap call_check_number e

-- ---- a pair

module _ (n t s z lent named area : ℕ) where
  pub call_source : n ≤ s → stations_fault n t s z lent named area ≡ 6
  unfolding stations_fault ends_causes
  call_source h = first_true 5 _ _ (rw (le-leb n s h))

  module _ (source : s < n) where
    pub call_destination : n ≤ z → stations_fault n t s z lent named area ≡ 6
    unfolding stations_fault ends_causes
    call_destination h = first_true 5 _ _ (rw (lt-leb n s source, le-leb n z h))

    module _ (destination : z < n) where
      stations_right : first (ends_causes n s z (ltb lent named || ltb area (work_size n t)))
          ≡ first (cause 7 (eqb s z) ∷ cause 8 (ltb lent named || ltb area (work_size n t)) ∷ [])
      unfolding ends_causes
      stations_right = first_false 6 _ _ (rw (lt-leb n s source, lt-leb n z destination))

      pub call_same : s ≡ z → stations_fault n t s z lent named area ≡ 7
      unfolding stations_fault
      call_same h = stations_right ∙ first_true 6 _ _ (eq-eqb s z h)

      module _ (different : s ≢ z) where
        pub call_short : lent < named → stations_fault n t s z lent named area ≡ 8
        unfolding stations_fault
        call_short h =
            stations_right ∙ first_false 7 _ _ (ne_eqb s z different) ∙ first_true 7 _ [] (rw (lt-ltb lent named h))

        module _ (room : named ≤ lent) where
          pub call_area : area < work_size n t → stations_fault n t s z lent named area ≡ 8
          unfolding stations_fault
          call_area h =
              stations_right ∙ first_false 7 _ _ (ne_eqb s z different) ∙
              first_true 7 _ [] (rw (le-ltb lent named room, lt-ltb area (work_size n t) h))

          pub call_free : work_size n t ≤ area → stations_fault n t s z lent named area ≡ 0
          unfolding stations_fault
          call_free h =
              stations_right ∙ first_false 7 _ _ (ne_eqb s z different) ∙
              first_false 8 _ [] (rw (le-ltb lent named room, le-ltb area (work_size n t) h)) ∙ first_nothing

module _ (n t : ℕ) (terms : Terms) (s z lent named area : ℕ) where
  -- 12 or 14 where one holds
  pub call_terms : (k : ℕ) → k ≡ first (terms_causes terms) → 0 < k → k ≡ pair_call_fault n t terms s z lent named area
  unfolding pair_call_fault pair_causes
  call_terms k e some = e ∙ sym (first_append_some (terms_causes terms) _ (subst (λ i. 0 < i) e some))

  -- else the others
  pub call_stations : first (terms_causes terms) ≡ 0 → stations_fault n t s z lent named area ≡ pair_call_fault n t terms s z lent named area
  unfolding stations_fault pair_call_fault pair_causes
  call_stations e = sym (first_append_none (terms_causes terms) _ e)

  -- what was found of 12 and 14 decides
  module _ (r : Result (Unit {0}) CallFault) (found : call_check_number r ≡ first (terms_causes terms)) where
    pub call_refused : (f : CallFault) → r ≡ Err f → call_number f ≡ pair_call_fault n t terms s z lent named area
    call_refused f e = call_terms (call_number f) (ap call_check_number (sym e) ∙ found) (call-number-within f).0

    pub call_passed : r ≡ Ok tt → stations_fault n t s z lent named area ≡ pair_call_fault n t terms s z lent named area
    call_passed e = call_stations (sym found ∙ ap call_check_number e)

-- ---- an operation that begins with the plan's causes, 12 and 14

module _ {Values Buffers : Type 0} (zeros : Values) (old : Buffers) (work : Outcome Values Buffers) (bs : List ℕ) (n t : ℕ) (terms : Terms)
    (m : List ℕ) (ok : plan_fault bs n t ≡ 0) (r : Result (Unit {0}) CallFault) (found : call_check_number r ≡ first (terms_causes terms)) where
  -- 12 or 14
  pub terms_refused : (f : CallFault) → r ≡ Err f
      → refused_with zeros old work (call_number f) ≡ entered (plan_causes bs n t ++ (terms_causes terms ++ m)) zeros old work
  terms_refused f e =
      let number : call_number f ≡ first (terms_causes terms) = ap call_check_number (sym e) ∙ found in
      ap (refused_with zeros old work) number ∙
      sym (entered_call zeros old work bs n t _ ok ∙
      entered_some zeros old work (terms_causes terms) m (subst (λ k. 0 < k) number (call-number-within f).0))

-- what a call without such a cause keeps
pub record FreeCall (n t : ℕ) (terms : Terms) (s z lent named area : ℕ) : Type 0 where
  pub right : first (terms_causes terms) ≡ 0
  pub units : Allowed terms
  pub source : s < n
  pub destination : z < n
  pub different : s ≢ z
  pub lent_room : named ≤ lent
  pub area_room : work_size n t ≤ area

pub free_call :
    (n t : ℕ) (terms : Terms) (s z lent named area : ℕ) → pair_call_fault n t terms s z lent named area ≡ 0 →
    FreeCall n t terms s z lent named area
unfolding pair_call_fault pair_causes ends_causes
free_call n t terms s z lent named area e =
    let right = first_append_left (terms_causes terms) _ e in
    let rest = first_append_right (terms_causes terms) _ e in
    let stations = first_head 5 (leb n s || leb n z) _ rest in
    let same = first_head 6 (eqb s z) _ (first_tail 5 (leb n s || leb n z) _ rest) in
    let short = first_head 7 (ltb lent named || ltb area (work_size n t)) []
    (first_tail 6 (eqb s z) _ (first_tail 5 (leb n s || leb n z) _ rest)) in
    record {
      right = right;
      units = terms_allowed terms right;
      source = leb-false n s (or_false_left (leb n s) (leb n z) stations);
      destination = leb-false n z (or_false_right (leb n s) (leb n z) stations);
      different = eqb-false s z same;
      lent_room = ltb-false lent named (or_false_left (ltb lent named) (ltb area (work_size n t)) short);
      area_room = ltb-false area (work_size n t) (or_false_right (ltb lent named) (ltb area (work_size n t)) short);
    }
