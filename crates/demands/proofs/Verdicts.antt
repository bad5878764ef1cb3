-- C-19 holds of the operation that judges a list. Assumes nothing.
use Rattle.judging.specs.declared.Judgement.{Judgement}
use Rattle.plan.specs.declared.Fault.{Fault}
use Rattle.std.specs.Prelude.{Result}
use Prim.Native.Nat.{ℕ, ◌≤◌, ◌<◌}
use native.Mathlib.Omega.{arith}
use native.Mathlib.Decide.{dec_le}
use mathlib.Core.Path.{◌≡◌, ap, ◌∙◌}
use mathlib.Core.Bool.{Bool, true, false}
use mathlib.Core.Logic.{⊎_elim, by_cases, ◌≢◌}
use mathlib.Core.List.{List, ◌∷◌, Memᴰ}
use mathlib.Core.Option.{Option, none, some}
use borrow.Author.Tests.{eqb-false}
use lib.Dec.{eqb}
use lib.ListN.{length, take, length-take}
use lib.Seq.{take_all}
use Rattle.temporal.specs.Lists.{below, any}
use Rattle.temporal.specs.Cursor.{same_numbers}
use Rattle.temporal.specs.Bytes.{plan_of}
use Rattle.temporal.specs.Shortest.{hops}
use Rattle.temporal.specs.Cause.{plan_causes, plan_fault, terms_causes, ends_causes, pair_causes, is_too_many}
use Rattle.temporal.specs.Outcome.{Outcome}
use Rattle.temporal.specs.Verdict.{Verdict, complete, beginning, wrong, joined, verdict_on, IsComplete, IsBeginning}
use Rattle.temporal.specs.OutcomeVerdict.{judged, verdict}
use Rattle.temporal.specs.FirstNext.{Question, list_of}
use Rattle.temporal.specs.TraceGiven.{given}
use Rattle.temporal.proofs.CauseLaws.{first_append_left, first_append_right, first_head, first_tail}
use Rattle.walks.proofs.EnteredLaws.{no_first, no_cause}
use Rattle.lists.proofs.ListLaws.{true_or_false, not_both, any_true, any_false, mem_below}
use Rattle.lists.proofs.BufferLaws.{same_numbers_law}
use Rattle.walks.proofs.VerdictLaws.{verdict_complete, verdict_beginning, verdict_wrong, not_complete}
use Rattle.walks.proofs.Adequacy.{in_complete_list}
use Rattle.verdicts.proofs.WorkLaws.{hops_some}
use Rattle.verdicts.specs.Answer.{verdict_given}
use Rattle.demands.specs.Verdicts.{VerdictAccepts, VerdictSaid, VerdictDemand}
use Rattle.demands.proofs.Demand3.{demand3}

module _ (q : Question) (list old : List ℕ) (r : Result Judgement Fault) (new : List ℕ) (a : VerdictAccepts q list old r new) where
  abbrev outcome : Outcome (Option Verdict) (List ℕ)
  outcome = record { number = 0; values = verdict_given r; buffers = new }

  -- where it is accepted, its work was done
  here : outcome ≡ verdict q.bytes q.stations q.slots q.terms q.source q.destination list old
  here = rw a.accepted at a.contract

  value : verdict_given r ≡ some (verdict_on (list_of q) list)
  unfolding verdict judged list_of
  value =
      let e = no_cause _ none (verdict_given r) old new _ here in
      ⊎_elim
      (λ many. absurd (let z : ◌≡◌ {A = ℕ} 0 9 = ap (λ o. o.number) (rw many at e) in omega arith))
      (λ few. ap (λ o. o.values) (rw few at e))
      (true_or_false (is_too_many (plan_of q.bytes q.stations q.slots q.terms) q.source))

  -- the plan is accepted, and source and destination differ
  plan_there : plan_fault q.bytes q.stations q.slots ≡ 0
  unfolding verdict plan_fault
  plan_there = first_append_left (plan_causes q.bytes q.stations q.slots) _ (no_first _ none (verdict_given r) old new _ here)

  differ : q.source ≢ q.destination
  unfolding verdict pair_causes ends_causes
  differ =
      let call = first_append_right (plan_causes q.bytes q.stations q.slots) _ (no_first _ none (verdict_given r) old new _ here) in
      eqb-false q.source q.destination
      (first_head 6 (eqb q.source q.destination) _ (first_tail 5 _ _ (first_append_right (terms_causes q.terms) _ call)))

  some_hops : 0 < hops (list_of q)
  unfolding list_of
  some_hops = hops_some q.bytes q.stations q.slots q.terms plan_there q.source q.destination differ

  sized : (w : List ℕ) → Memᴰ w (list_of q) → length w ≡ hops (list_of q)
  unfolding list_of
  sized w m =
      ((in_complete_list q.bytes q.stations q.slots q.terms plan_there q.source q.destination w).0 m).1

  disjoint : IsComplete (list_of q) list → IsBeginning (list_of q) list → ⊥
  disjoint c b = not_complete (list_of q) list (hops (list_of q)) some_hops sized b.0 b.1 b.2 c

  complete_given : IsComplete (list_of q) list → verdict_given r ≡ some complete
  complete_given c = value ∙ ap some (verdict_complete (list_of q) list c)

  beginning_given : IsBeginning (list_of q) list → verdict_given r ≡ some beginning
  beginning_given b = value ∙ ap some (verdict_beginning (list_of q) list (hops (list_of q)) some_hops sized b)

  -- what the verdict says
  data Said : Type 0 where
    said_complete : verdict_given r ≡ some complete → IsComplete (list_of q) list → Said
    said_beginning : verdict_given r ≡ some beginning → IsBeginning (list_of q) list → Said
    said_wrong : verdict_given r ≡ some wrong → (IsComplete (list_of q) list → ⊥) → (IsBeginning (list_of q) list → ⊥) → Said

  judge : Said
  judge = ⊎_elim all some_or_none (true_or_false (same_numbers list (joined (list_of q))))
    where
      all : same_numbers list (joined (list_of q)) ≡ true → Said
      all e = let c = (same_numbers_law list (joined (list_of q))).0 e in said_complete (complete_given c) c

      first_ones : ℕ → Bool
      first_ones i = same_numbers list (joined (take i (list_of q)))

      some_or_none : same_numbers list (joined (list_of q)) ≡ false → Said
      some_or_none e =
          ⊎_elim
          (λ h.
          let (i, m, is) = (any_true first_ones (below (length (list_of q)))).0 h in
          let b : IsBeginning (list_of q) list =
          (i, (mem_below (length (list_of q))).0 m, (same_numbers_law list (joined (take i (list_of q)))).0 is) in
          said_beginning (beginning_given b) b)
          (λ h.
          let not_all : IsComplete (list_of q) list → ⊥ = λ c. not_both ((same_numbers_law list (joined (list_of q))).1 c) e in
          let not_some : IsBeginning (list_of q) list → ⊥ = λ b.
          not_both ((same_numbers_law list (joined (take b.0 (list_of q)))).1 b.2)
          ((any_false first_ones (below (length (list_of q)))).0 h b.0 ((mem_below (length (list_of q))).1 b.1)) in
          said_wrong
          (value ∙ ap some (verdict_wrong (list_of q) list (λ i most is.
          by_cases (dec_le (length (list_of q)) i)
          (λ past. not_all (is ∙ ap joined (take_all i (list_of q) past)))
          (λ less. not_some (i, omega arith, is)))))
          not_all not_some)
          (true_or_false (any first_ones (below (length (list_of q)))))

  said : VerdictSaid (list_of q) list r
  said = from_said judge
    where
      from_said : Said → VerdictSaid (list_of q) list r
      from_said (said_complete g c) =
          record {
            given_one = (complete, g);
            is_complete = (λ e. c, λ h. g);
            is_beginning = (λ e. absurd (let z : ◌≡◌ {A = ℕ} 0 1 = cc in omega arith), λ b. absurd (disjoint c b));
            is_wrong = (λ e. absurd (let z : ◌≡◌ {A = ℕ} 0 1 = cc in omega arith), λ h. absurd (h.0 c));
            disjoint = disjoint;
          }
      from_said (said_beginning g b) =
          record {
            given_one = (beginning, g);
            is_complete = (λ e. absurd (let z : ◌≡◌ {A = ℕ} 0 1 = cc in omega arith), λ c. absurd (disjoint c b));
            is_beginning = (λ e. b, λ h. g);
            is_wrong = (λ e. absurd (let z : ◌≡◌ {A = ℕ} 0 1 = cc in omega arith), λ h. absurd (h.1 b));
            disjoint = disjoint;
          }
      from_said (said_wrong g not-c not-b) =
          record {
            given_one = (wrong, g);
            is_complete = (λ e. absurd (let z : ◌≡◌ {A = ℕ} 0 1 = cc in omega arith), λ c. absurd (not-c c));
            is_beginning = (λ e. absurd (let z : ◌≡◌ {A = ℕ} 0 1 = cc in omega arith), λ b. absurd (not-b b));
            is_wrong = (λ e. (not-c, not-b), λ h. g);
            disjoint = disjoint;
          }

-- C-19.
pub verdict_demand : VerdictDemand
verdict_demand =
    record {
      said = said;
      of_traces = λ q asked e es from_first old r new a.
          let l = list_of q in
          let out = given (e ∷ es) in
          let first_ones : out ≡ take (length out) l = (demand3.gives q asked e es from_first).first_ones in
          let most : length out ≤ length l = omega (arith, ap length first_ones, length-take (length out) l) in (
            λ all.
                complete_given q (joined out) old r new a
                (ap joined (first_ones ∙ take_all (length out) l (omega arith))),
            λ fewer. beginning_given q (joined out) old r new a (length out, fewer, ap joined first_ones),
            most,
          );
    }
