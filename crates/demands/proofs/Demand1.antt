-- Demand 1 holds: of each operation's contract, for every call. Assumes nothing.
use Rattle.plan.specs.declared.PlanFault.{PlanFault}
use Rattle.std.specs.Prelude.{Result, Ok, Err}
use Prim.Native.Nat.{ℕ, ◌+◌, ◌*◌}
use native.Mathlib.Omega.{arith}
use native.Mathlib.Nat.{pos_of_ne-zero}
use mathlib.Core.Path.{◌≡◌, refl, sym, ap, subst, ◌∙◌}
use mathlib.Core.List.{List, [], ◌∷◌, append_assoc}
use mathlib.Core.Logic.{◌↔◌, ◌≢◌, ⊎_elim}
use mathlib.Core.Option.{none}
use borrow.Author.Tests.{le-ltb}
use lib.ListN.{length, take, drop, length-take, length-drop}
use Rattle.temporal.specs.Plan.{Terms, turning}
use Rattle.temporal.specs.Bytes.{plan_of}
use Rattle.temporal.specs.Cause.{cause, first, plan_fault, plan_causes, terms_causes, pair_causes, wrong_sources, appearance_too_many, is_too_many, too_many_below, too_many_anywhere}
use Rattle.temporal.specs.Outcome.{cleared, work_size, ReachTables, reached, reach, row_number, row}
use Rattle.temporal.specs.OutcomePair.{PairBuffers, paired, pair, LoadBuffers, partly_loaded, partial_loads, loads, compared, busiest}
use Rattle.temporal.specs.OutcomeSet.{set_counted, through_set}
use Rattle.temporal.specs.OutcomeForemost.{foremost_paired, foremost}
use Rattle.temporal.specs.OutcomeVerdict.{judged, verdict}
use Rattle.temporal.specs.OutcomeDrawn.{DrawnBuffers, drawn_loaded, drawn_loads}
use Rattle.temporal.specs.Struck.{struck_out}
use Rattle.temporal.specs.OutcomeStruck.{StruckBuffers, either_too_many, struck_off, struck}
use Rattle.temporal.specs.Band.{take_in, take_out}
use Rattle.lists.proofs.ListLaws.{true_or_false}
use Rattle.walks.proofs.NumberLaws.{none_has, cause_has, append_has, plan_has, ends_has, turning_other}
use Rattle.plan.specs.Fault.{check_number}
use Rattle.plan.proofs.Answers.{number-positive}
use Rattle.rows.proofs.RowLaws.{row_refused, row_part, row_within, row_end}
use Rattle.listing.specs.Answer.{question}
use Rattle.demands.specs.Causes.{
  reach_causes,
  reach_emptied,
  row_causes,
  pair_all_causes,
  pair_emptied,
  loads_causes,
  loads_emptied,
  partial_loads_causes,
  busiest_causes,
  through_set_causes,
  foremost_causes,
  verdict_causes,
  drawn_causes,
  drawn_emptied,
  struck_causes,
  struck_emptied,
  take_in_causes,
  take_out_causes,
  first_way_causes,
  next_way_causes,
  way_emptied,
}
use Rattle.demands.specs.Demand1.{Judged, CheckJudged, RowJudged, Demand1}
use Rattle.demands.proofs.LimitLaws.{within_limits}
use Rattle.demands.proofs.JudgedLaws.{
  numbered,
  plain_station,
  plain_pair,
  plain_sources,
  plain_short,
  plain_position,
  plain_set,
  plain_band,
  judged_entered,
  judged_without,
  judged_accepted,
  judged_plain,
  judged_too_many,
  judged_work,
}
use Rattle.demands.proofs.WayJudged.{outcome_of, first_way_judged, next_way_judged}

-- ---- check

-- the number is 0 where the answer is acceptance, and nowhere else
number_accepted : (r : Result (Unit {0}) PlanFault) → (r ≡ Ok tt) ↔ (check_number r ≡ 0)
number_accepted (Ok x) = (λ e. refl, λ e. refl)
number_accepted (Err f) =
    (λ e. ap check_number e, λ e. absurd (let some = number-positive f in omega arith))

check_judged : (bs : List ℕ) (n t : ℕ) (r : Result (Unit {0}) PlanFault) → check_number r ≡ plan_fault bs n t → CheckJudged bs n t r
unfolding plan_fault
check_judged bs n t r e =
    record {
      accepts = (
        λ a. (within_limits bs n t).0 (sym e ∙ (number_accepted r).0 a),
        λ w. (number_accepted r).1 (e ∙ (within_limits bs n t).1 w),
      );
      numbered = numbered (plan_causes bs n t) (check_number r) e;
    }

-- ---- reach and row

reach_judged : (bs : List ℕ) (n t : ℕ) (terms : Terms) (s : ℕ) (old : ReachTables)
    → Judged (reach_causes bs n t terms s old) tt old (reach_emptied n t old) (reach bs n t terms s old)
unfolding reach reached reach_causes reach_emptied plan_of
reach_judged bs n t terms s old =
    judged_entered tt old (reach_emptied n t old) _ _ _ (plain_station bs n t terms _ s)
    (judged_work tt old (reach_emptied n t old) (is_too_many (plan_of bs n t terms) s) _ refl)

row_judged : (n t v : ℕ) (table part : List ℕ) (k : ℕ) → k ≡ row_number n t v table → part ≡ row n t v table
    → RowJudged n t v table k part
unfolding row_number row_causes
row_judged n t v table part k number is_row =
    record {
      numbered = numbered (row_causes n t v table) k number;
      empty = (
        λ e free. full (sym number ∙ free) e,
        λ some. let positive = pos_of_ne-zero some in is_row ∙ row_refused n t v table (omega arith),
      );
    }
  where
    -- an accepted row has t + 1 entries
    full : row_number n t v table ≡ 0 → part ≡ [] → ⊥
    full free e =
        let inside = row_within n t v table free in
        let fits = row_end v n (t + 1) (length table) inside.0 inside.2 in
        let entries : part ≡ take (t + 1) (drop (v * (t + 1)) table) = is_row ∙ row_part n t v table free in
        let size : length part ≡ t + 1 = ap length entries ∙ simp (length-take, length-drop) (omega arith) in
        let nothing : length part ≡ 0 = ap length e in
        omega arith

-- ---- pair, loads and busiest

pair_judged : (bs : List ℕ) (n t : ℕ) (terms : Terms) (s z : ℕ) (old : PairBuffers)
    → Judged (pair_all_causes bs n t terms s z old) (record { hops = 0; count = 0 }) old (pair_emptied n t old) (pair bs n t terms s z old)
unfolding pair paired pair_all_causes pair_emptied plan_of
pair_judged bs n t terms s z old =
    judged_entered (record { hops = 0; count = 0 }) old (pair_emptied n t old) _ _ _ (plain_pair bs n t terms _ s z)
    (judged_work (record { hops = 0; count = 0 }) old (pair_emptied n t old) (is_too_many (plan_of bs n t terms) s) _ refl)

partial_loads_judged : (bs : List ℕ) (n t : ℕ) (terms : Terms) (k : ℕ) (old : LoadBuffers)
    → Judged (partial_loads_causes bs n t terms k old) tt old (loads_emptied n t old) (partial_loads bs n t terms k old)
unfolding partial_loads partly_loaded partial_loads_causes loads_emptied plan_of terms_causes
partial_loads_judged bs n t terms k old =
    subst (λ l. Judged l tt old (loads_emptied n t old) (partial_loads bs n t terms k old))
    (append_assoc (plan_causes bs n t) (_ ∷ _ ∷ _ ∷ _ ∷ []) (_ ∷ []))
    (judged_entered tt old (loads_emptied n t old) _ _ _ (plain_sources bs n t terms _ k)
    (judged_work tt old (loads_emptied n t old) (too_many_below (plan_of bs n t terms) k) _ refl))

-- 13 never holds of loads
loads_judged : (bs : List ℕ) (n t : ℕ) (terms : Terms) (old : LoadBuffers)
    → Judged (loads_causes bs n t terms old) tt old (loads_emptied n t old) (loads bs n t terms old)
unfolding loads_causes partial_loads_causes plan_of
loads_judged bs n t terms old =
    judged_without tt old (loads_emptied n t old) (plan_causes bs n t) (terms_causes terms) _ 13 (wrong_sources n n) _ (le-ltb n n (omega arith))
    (partial_loads_judged bs n t terms n old)

-- the number of the work is that of loads
drawn_worked : (bs : List ℕ) (n t : ℕ) (terms : Terms) (old : DrawnBuffers)
    → Judged (cause 9 (too_many_anywhere (plan_of bs n t terms)) ∷ []) tt old (drawn_emptied n t old) (drawn_loaded (plan_of bs n t terms) old)
unfolding drawn_loaded partly_loaded drawn_emptied loads_emptied plan_of cause first
drawn_worked bs n t terms old =
    ⊎_elim
    (λ many. rw many (judged_too_many tt old (drawn_emptied n t old) (9 ∷ []) refl))
    (λ few. rw few (judged_accepted tt old (drawn_emptied n t old) (0 ∷ []) _ refl refl))
    (true_or_false (too_many_anywhere (plan_of bs n t terms)))

drawn_judged : (bs : List ℕ) (n t : ℕ) (terms : Terms) (old : DrawnBuffers)
    → Judged (drawn_causes bs n t terms old) tt old (drawn_emptied n t old) (drawn_loads bs n t terms old)
unfolding drawn_loads drawn_causes terms_causes
drawn_judged bs n t terms old =
    subst (λ l. Judged l tt old (drawn_emptied n t old) (drawn_loads bs n t terms old))
    (append_assoc (plan_causes bs n t) (_ ∷ _ ∷ _ ∷ []) (_ ∷ []))
    (judged_entered tt old (drawn_emptied n t old) _ _ _ (plain_short bs n t terms _) (drawn_worked bs n t terms old))

struck_judged : (bs : List ℕ) (n t : ℕ) (terms : Terms) (i : ℕ) (old : StruckBuffers)
    → Judged (struck_causes bs n t terms i old) 0 old (struck_emptied n t old) (struck bs n t terms i old)
unfolding struck struck_off struck_causes struck_emptied plan_of struck_out terms_causes
struck_judged bs n t terms i old =
    subst (λ l. Judged l 0 old (struck_emptied n t old) (struck bs n t terms i old))
    (append_assoc (plan_causes bs n t) (_ ∷ _ ∷ _ ∷ _ ∷ []) (_ ∷ []))
    (judged_entered 0 old (struck_emptied n t old) _ _ _ (plain_position bs n t terms _ _)
    (judged_work 0 old (struck_emptied n t old) (either_too_many (plan_of bs n t terms) i) _ refl))

busiest_judged : (bs : List ℕ) (n t : ℕ) (terms : Terms) (old : List ℕ)
    → Judged (busiest_causes bs n t terms old) 0 old (cleared (work_size n t) old) (busiest bs n t terms old)
unfolding busiest compared busiest_causes plan_of terms_causes
busiest_judged bs n t terms old =
    subst (λ l. Judged l 0 old (cleared (work_size n t) old) (busiest bs n t terms old))
    (append_assoc (plan_causes bs n t) (_ ∷ _ ∷ _ ∷ []) (_ ∷ []))
    (judged_entered 0 old (cleared (work_size n t) old) _ _ _ (plain_short bs n t terms _)
    (judged_work 0 old (cleared (work_size n t) old) (too_many_anywhere (plan_of bs n t terms)) _ refl))

set_judged : (bs : List ℕ) (n t : ℕ) (terms : Terms) (s z : ℕ) (set old : List ℕ)
    → Judged (through_set_causes bs n t terms s z set old) 0 old (cleared (work_size n t) old) (through_set bs n t terms s z set old)
unfolding through_set set_counted through_set_causes plan_of
set_judged bs n t terms s z set old =
    judged_entered 0 old (cleared (work_size n t) old) _ _ _ (plain_set bs n t terms s z set old)
    (judged_work 0 old (cleared (work_size n t) old) (is_too_many (plan_of bs n t terms) s) _ refl)

foremost_judged : (bs : List ℕ) (n t : ℕ) (terms : Terms) (s z : ℕ) (old : PairBuffers)
    → Judged (foremost_causes bs n t terms s z old) (record { slot = 0; hops = 0; count = 0 }) old (pair_emptied n t old)
    (foremost bs n t terms s z old)
unfolding foremost foremost_paired foremost_causes pair_emptied plan_of
foremost_judged bs n t terms s z old =
    judged_entered (record { slot = 0; hops = 0; count = 0 }) old (pair_emptied n t old) _ _ _ (plain_pair bs n t terms _ s z)
    (judged_work (record { slot = 0; hops = 0; count = 0 }) old (pair_emptied n t old) (appearance_too_many (plan_of bs n t terms) s) _ refl)

verdict_judged : (bs : List ℕ) (n t : ℕ) (terms : Terms) (s z : ℕ) (list old : List ℕ)
    → Judged (verdict_causes bs n t terms s z old) none old (cleared (work_size n t) old) (verdict bs n t terms s z list old)
unfolding verdict judged verdict_causes plan_of
verdict_judged bs n t terms s z list old =
    judged_entered none old (cleared (work_size n t) old) _ _ _ (plain_pair bs n t terms _ s z)
    (judged_work none old (cleared (work_size n t) old) (is_too_many (plan_of bs n t terms) s) _ refl)

take_in_judged : (bs : List ℕ) (n t c : ℕ) (old : List ℕ) → Judged (take_in_causes bs n t c old) tt old old (take_in bs n t c old)
unfolding take_in take_in_causes
take_in_judged bs n t c old = judged_plain tt old old _ _ (plain_band bs n t _ 15 _ (omega arith) (omega arith)) refl

take_out_judged : (bs : List ℕ) (n t : ℕ) (old : List ℕ) → Judged (take_out_causes bs n t old) tt old old (take_out bs n t old)
unfolding take_out take_out_causes
take_out_judged bs n t old = judged_plain tt old old _ _ (plain_band bs n t _ 16 _ (omega arith) (omega arith)) refl

-- the causes of the operation on shortest foremost paths, for units that keep a reading until the plan ends: 14 does not hold
foremost_other : (bs : List ℕ) (n t g s z : ℕ) (old : PairBuffers) → first (foremost_causes bs n t (turning g) s z old) ≢ 14
unfolding foremost_causes pair_causes
foremost_other bs n t g s z old =
    append_has (λ k. k ≢ 14) (λ e. omega arith) _ _
    (append_has (λ k. k ≢ 14) (λ e. omega arith) (plan_causes bs n t) _
    (plan_has (λ k. k ≢ 14) (λ e. omega arith) (λ e. omega arith) (λ e. omega arith) (λ e. omega arith) (λ e. omega arith)
    (λ e. omega arith) bs n t)
    (append_has (λ k. k ≢ 14) (λ e. omega arith) (terms_causes (turning g)) _ (turning_other g)
    (ends_has (λ k. k ≢ 14) (λ e. omega arith) (λ e. omega arith) (λ e. omega arith) (λ e. omega arith) n s z _)))
    (cause_has (λ k. k ≢ 14) (λ e. omega arith) 9 _ [] (λ e. omega arith) (none_has (λ k. k ≢ 14) (λ e. omega arith)))

-- ---- the theorem

pub demand1 : Demand1
demand1 =
    record {
      limits = within_limits;
      of_check = check_judged;
      of_reach = λ bs n t terms s old x r e.
          subst (Judged (reach_causes bs n t terms s old) tt old (reach_emptied n t old)) (sym e) (reach_judged bs n t terms s old);
      of_row = λ n t v table part k e is. row_judged n t v table.now part.now k e is.entries;
      of_pair = λ bs n t terms s z old x r e.
          subst (Judged (pair_all_causes bs n t terms s z old) (record { hops = 0; count = 0 }) old (pair_emptied n t old)) (sym e)
          (pair_judged bs n t terms s z old);
      of_loads = λ bs n t terms old x r e.
          subst (Judged (loads_causes bs n t terms old) tt old (loads_emptied n t old)) (sym e) (loads_judged bs n t terms old);
      of_partial_loads = λ bs n t terms k old x r e.
          subst (Judged (partial_loads_causes bs n t terms k old) tt old (loads_emptied n t old)) (sym e)
          (partial_loads_judged bs n t terms k old);
      of_drawn_loads = λ bs n t terms old x r e.
          subst (Judged (drawn_causes bs n t terms old) tt old (drawn_emptied n t old)) (sym e) (drawn_judged bs n t terms old);
      of_busiest = λ bs n t terms old x r e.
          subst (Judged (busiest_causes bs n t terms old) 0 old (cleared (work_size n t) old)) (sym e) (busiest_judged bs n t terms old);
      of_struck = λ bs n t terms i old x r e.
          subst (Judged (struck_causes bs n t terms i old) 0 old (struck_emptied n t old)) (sym e) (struck_judged bs n t terms i old);
      of_set = λ bs n t terms s z set old x r e.
          subst (Judged (through_set_causes bs n t terms s z set old) 0 old (cleared (work_size n t) old)) (sym e)
          (set_judged bs n t terms s z set old);
      of_foremost = λ bs n t terms s z old x r e.
          subst
          (Judged (foremost_causes bs n t terms s z old) (record { slot = 0; hops = 0; count = 0 }) old (pair_emptied n t old))
          (sym e) (foremost_judged bs n t terms s z old);
      foremost_takes_none = λ bs n t g s z old x r e four.
          foremost_other bs n t g s z old (sym (foremost_judged bs n t (turning g) s z old).numbered.the_first ∙
          ap (λ o. o.number) (sym e) ∙ four);
      of_verdict = λ bs n t terms s z list old x r e.
          subst (Judged (verdict_causes bs n t terms s z old) none old (cleared (work_size n t) old)) (sym e)
          (verdict_judged bs n t terms s z list old);
      of_take_in = λ bs n t c old x r e. subst (Judged (take_in_causes bs n t c old) tt old old) (sym e) (take_in_judged bs n t c old);
      of_take_out = λ bs n t old x r e. subst (Judged (take_out_causes bs n t old) tt old old) (sym e) (take_out_judged bs n t old);
      of_first_way = λ bs n t g h s z old x r e.
          subst (Judged (first_way_causes (question bs n t g h s z) old) 0 old (way_emptied n t old)) (sym (ap outcome_of e))
          (first_way_judged (question bs n t g h s z) old);
      of_next_way = λ bs n t g h s z old x r e.
          subst (Judged (next_way_causes (question bs n t g h s z) old) 0 old (way_emptied n t old)) (sym (ap outcome_of e))
          (next_way_judged (question bs n t g h s z) old);
    }
