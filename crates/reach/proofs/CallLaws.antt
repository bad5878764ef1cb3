-- How reach begins: the first cause of refusal, from the answers about the plan and the terms and from comparisons of numbers. Assumes
-- nothing.
use Prim.Native.Nat.{ℕ, ◌<◌, ◌≤◌}
use native.Mathlib.Omega.{arith}
use mathlib.Core.Path.{◌≡◌, sym, ap, ◌∙◌}
use mathlib.Core.Bool.{Bool, true, false, ◌||◌}
use mathlib.Core.List.{List, []}
use Rattle.std.specs.Prelude.{Result, Err}
use borrow.Author.Tests.{le-leb, lt-leb}
use Rattle.temporal.specs.Plan.{Terms}
use Rattle.temporal.specs.Bytes.{plan_of}
use Rattle.temporal.specs.Cause.{plan_fault, first, terms_causes, station_causes}
use Rattle.temporal.specs.Outcome.{Outcome, entered, short, places, ReachTables, reached, reach}
use Rattle.walks.proofs.EnteredLaws.{
  refused_with,
  entered_plan,
  entered_call,
  entered_none,
  entered_cause,
  entered_pass,
  entered_work,
}
use Rattle.plan.specs.Fault.{plan_number, call_number, check_number}
use Rattle.plan.specs.declared.PlanFault.{PlanFault}
use Rattle.plan.specs.declared.CallFault.{CallFault}
use Rattle.plan.proofs.Answers.{number-positive}
use Rattle.calls.specs.Call.{call_check_number}
use Rattle.calls.proofs.CallLaws.{terms_refused}

module _ (bs : List ℕ) (n t : ℕ) (terms : Terms) (s : ℕ) (old : ReachTables) where
  -- whether one of the four tables is too short
  abbrev pub lacking : Bool
  lacking =
      short (places n t) old.hops_table || short (places n t) old.count_table ||
      (short n old.station_hops || short n old.station_counts)

  -- a plan that check refuses
  pub reach_plan :
      (r : Result (Unit {0}) PlanFault) (f : PlanFault) → check_number r ≡ plan_fault bs n t → r ≡ Err f →
      ◌≡◌ {A = Outcome (Unit {0}) ReachTables} (record { number = plan_number f; values = tt; buffers = old }) (reach bs n t terms s old)
  unfolding reach
  reach_plan r f answer e =
      let number : plan_number f ≡ plan_fault bs n t = ap check_number (sym e) ∙ answer in
      let some = number-positive f in
      ap (refused_with tt old (reached (plan_of bs n t terms) s old)) number ∙
      sym (entered_plan tt old (reached (plan_of bs n t terms) s old) bs n t _ (omega arith))

  module _ (ok : plan_fault bs n t ≡ 0) where
    -- terms that are refused
    pub reach_terms :
        (r : Result (Unit {0}) CallFault) (f : CallFault) → call_check_number r ≡ first (terms_causes terms) → r ≡ Err f →
        refused_with tt old (reached (plan_of bs n t terms) s old) (call_number f) ≡ reach bs n t terms s old
    unfolding reach
    reach_terms r f found e = terms_refused tt old _ bs n t terms _ ok r found f e

    module _ (right : first (terms_causes terms) ≡ 0) where
      -- the station and the tables decide
      reach_call : reach bs n t terms s old ≡ entered (station_causes n s lacking) tt old (reached (plan_of bs n t terms) s old)
      unfolding reach
      reach_call = entered_call tt old _ bs n t _ ok ∙ entered_none tt old _ (terms_causes terms) _ right

      pub reach_station : n ≤ s → reach bs n t terms s old ≡ refused_with tt old (reached (plan_of bs n t terms) s old) 6
      unfolding station_causes
      reach_station h = reach_call ∙ entered_cause tt old _ 5 _ _ (le-leb n s h)

      module _ (inside : s < n) where
        -- a table that is too short
        pub reach_short : lacking ≡ true → reach bs n t terms s old ≡ refused_with tt old (reached (plan_of bs n t terms) s old) 8
        unfolding station_causes
        reach_short e = reach_call ∙ entered_pass tt old _ 6 _ _ (lt-leb n s inside) ∙ entered_cause tt old _ 7 _ [] e

        -- with 1 to 8, 12 and 14 excluded the work is done
        pub reach_works : lacking ≡ false → reach bs n t terms s old ≡ reached (plan_of bs n t terms) s old
        unfolding station_causes
        reach_works e =
            reach_call ∙ entered_pass tt old _ 6 _ _ (lt-leb n s inside) ∙ entered_pass tt old _ 8 _ [] e ∙
            entered_work tt old _
