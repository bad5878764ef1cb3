-- C-12 holds of the operation on a pair and a set. Assumes nothing.
use Rattle.plan.specs.declared.Fault.{Fault}
use Rattle.std.specs.Prelude.{Result}
use Prim.Native.Nat.{ℕ, ◌<◌}
use native.Mathlib.Omega.{arith}
use mathlib.Core.Path.{◌≡◌, ap, ◌∙◌}
use mathlib.Core.Logic.{⊎_elim}
use mathlib.Core.List.{List}
use lib.Dec.{eqb, leb}
use borrow.Author.Tests.{leb-false}
use Rattle.temporal.specs.Plan.{Terms}
use Rattle.temporal.specs.Set.{touched}
use Rattle.temporal.specs.Bytes.{plan_of}
use Rattle.temporal.specs.Cause.{plan_causes, plan_fault, terms_causes, ends_causes, pair_causes, is_too_many}
use Rattle.temporal.specs.Outcome.{Outcome}
use Rattle.temporal.specs.OutcomeSet.{is_member, set_causes, set_counted, through_set}
use Rattle.temporal.proofs.CauseLaws.{first_append_left, first_append_right, first_head, or_false_left}
use Rattle.walks.proofs.EnteredLaws.{no_first, no_cause}
use Rattle.lists.proofs.ListLaws.{true_or_false}
use Rattle.walks.proofs.SetLaws.{
  touched_same,
  touched_none,
  touched_one,
  touched_all,
  touched_each,
  touched_sum,
  touched_larger,
}
use Rattle.sets.specs.Answer.{set_count}
use Rattle.demands.specs.Sets.{SetDemand}

module _ (bs : List ℕ) (n t : ℕ) (terms : Terms) (s z : ℕ) (set old : List ℕ) (r : Result ℕ Fault) (new : List ℕ) where
  -- the work without cause 9 counts the walks that a member touches
  set_counted_law :
      ◌≡◌ {A = Outcome ℕ (List ℕ)} (record { number = 0; values = set_count r; buffers = new })
      (set_counted (plan_of bs n t terms) s z set old) →
      set_count r ≡ touched (plan_of bs n t terms) s z (is_member set)
  unfolding set_counted
  set_counted_law e =
      ⊎_elim
      (λ many. absurd (let z : ◌≡◌ {A = ℕ} 0 9 = ap (λ o. o.number) (rw many at e) in omega arith))
      (λ few. ap (λ o. o.values) (rw few at e))
      (true_or_false (is_too_many (plan_of bs n t terms) s))

-- C-12.
pub set_demand : SetDemand
unfolding through_set plan_fault set_causes pair_causes ends_causes plan_of
set_demand bs n t terms s z set old r new a =
    let here = rw a.accepted at a.contract in
    let p = plan_of bs n t terms in
    let none = no_first _ 0 (set_count r) old new _ here in
    let ok : plan_fault bs n t ≡ 0 = first_append_left (plan_causes bs n t) _ none in
    let call = first_append_left (pair_causes terms n s z _) _ (first_append_right (plan_causes bs n t) _ none) in
    let source : s < n = leb-false n s (or_false_left (leb n s) (leb n z) (first_head 5 _ _ (first_append_right (terms_causes terms) _ call))) in
    let is = set_counted_law bs n t terms s z set old r new (no_cause _ 0 (set_count r) old new _ here) in
    record {
      counted = is;
      of_none = λ h. is ∙ touched_none p s z (is_member set) h;
      of_one = λ v inside h. is ∙ touched_same p s z (is_member set) (eqb v) h ∙ touched_one p s z v inside;
      of_all = λ h more. is ∙ touched_all bs n t terms ok s z source (is_member set) h more;
      at_least = λ v inside h. omega (arith, touched_each p s z (is_member set) v inside h);
      at_most = omega (arith, touched_sum p s z (is_member set));
      larger = λ set' h. omega (arith, touched_larger p s z (is_member set) (is_member set') h);
    }
