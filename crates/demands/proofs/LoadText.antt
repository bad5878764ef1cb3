-- The text for doubled plan A is its six lines, by computation from the definition of the text, with lists that are grown hop by hop
-- (GrownLaws); and the text for older units is the one of before.
-- Assumes nothing.
use Prim.Native.Nat.{ℕ, zero, suc, ◌≤◌}
use mathlib.Core.Path.{◌≡◌, refl, ap, ap₂, ◌∙◌, fun_ext}
use mathlib.Core.List.{List, [], ◌∷◌, ◌++◌, flat_map}
use mathlib.Core.Option.{bind}
use borrow.Author.Tests.{leb-true}
use lib.ListN.{length}
use Rattle.temporal.specs.Lists.{from, below, sum, select, any, member, distinct, tuples}
use Rattle.temporal.specs.Plan.{Plan, Terms, turning, leads_to, may_follow}
use Rattle.temporal.specs.Walk.{along, step, run, last_or, holds, ends_in, is_interior}
use Rattle.temporal.specs.Shortest.{or_else, first_nonempty}
use Rattle.temporal.specs.Load.{pairs_by, load_by, ends_below}
use Rattle.temporal.specs.Bytes.{word_at, contact_at, records, plan_of}
use Rattle.temporal.specs.Cause.{cause, first, unless, outside, wrong_length, wrong_slot, wrong_ends, is_above, wrong_order}
use Rattle.temporal.specs.Cause.{record_causes, plan_causes, wrong_turnaround, wrong_keeping, terms_causes, too_many_anywhere}
use Rattle.temporal.proofs.CauseLaws.{first_append_none}
use Rattle.walks.proofs.EnteredLaws.{unless_none}
use Rattle.walks.proofs.FewLaws.{most_lists, few_anywhere}
use Rattle.walks.proofs.GrownLaws.{grown, grown_shortest, onward, grown_walks_to, pairs_by_law, load_by_law}
use Rattle.text.specs.Decimal.{code, codes, powers_up_to, digit_count, decimal}
use Rattle.report.specs.Sizes.{largest, top_station, input_stations, input_slots, wrong_input, over_limits}
use Rattle.text.specs.Field.{field, fields, labelled}
use Rattle.report.specs.Report.{heading, line, loads_text, input_causes, input_plan, refusal_text, refusal_of, printed}
use Rattle.examples.specs.Questions.{plan_a}
use Rattle.demands.specs.LoadText.{plan_alines_two_slots, plan_alines_one_slot, as_text, printed_before, LoadText}

-- the text by lists that are grown
unfoldable grown_text : Plan → List ℕ
grown_text p =
    heading p.stations p.slots (length p.contacts) ++
    flat_map (λ v. line v (length (pairs_by p (grown_walks_to p) v)) (load_by p (grown_walks_to p) v)) (below p.stations)

text_grown : (p : Plan) → loads_text p ≡ grown_text p
unfolding loads_text grown_text
text_grown p =
    ap (λ f. heading p.stations p.slots (length p.contacts) ++ flat_map f (below p.stations))
    (fun_ext (λ v. ap₂ (line v) (pairs_by_law p v) (load_by_law p v)))

-- causes none of which holds may stand between two lists of causes
first_without :
    (c l m o : List ℕ) → first c ≡ 0 → first (l ++ (m ++ (c ++ o))) ≡ first (l ++ (m ++ o))
unfolding first
first_without c (zero ∷ l) m o e = first_without c l m o e
first_without c (suc i ∷ l) m o e = refl
first_without c [] (zero ∷ m) o e = first_without c [] m o e
first_without c [] (suc i ∷ m) o e = refl
first_without c [] [] o e = first_append_none c o e

module _ (terms : Terms) (right : first (terms_causes terms) ≡ 0) where
  -- terms that are allowed leave the causes of before
  without_terms :
      (bs : List ℕ) →
      refusal_of bs terms ≡
      first (input_causes bs ++
      (plan_causes bs (input_stations bs) (input_slots bs) ++ cause 9 (too_many_anywhere (input_plan bs terms)) ∷ []))
  unfolding refusal_of
  without_terms bs =
      first_without (terms_causes terms) (input_causes bs) (plan_causes bs (input_stations bs) (input_slots bs)) _ right

  few : most_lists (input_plan plan_a.bytes terms) ≤ 18446744073709551615
  unfolding most_lists from below sum tuples word_at contact_at records plan_of largest top_station input_stations input_slots flat_map
  few = leb-true _ _ refl

  -- no cause of refusal
  pub accepted : refusal_of plan_a.bytes terms ≡ 0
  unfolding from below any word_at contact_at records plan_of cause first outside wrong_length wrong_slot wrong_ends is_above wrong_order record_causes plan_causes largest top_station input_stations input_slots wrong_input over_limits input_causes flat_map
  accepted =
      without_terms plan_a.bytes ∙
      ap (λ b. first (input_causes plan_a.bytes ++
      (plan_causes plan_a.bytes (input_stations plan_a.bytes) (input_slots plan_a.bytes) ++ cause 9 b ∷ [])))
      (few_anywhere (input_plan plan_a.bytes terms) few)

  plan_a_grown : printed plan_a.bytes terms ≡ grown_text (input_plan plan_a.bytes terms)
  unfolding printed
  plan_a_grown =
      unless_none (refusal_of plan_a.bytes terms) refusal_text (loads_text (input_plan plan_a.bytes terms)) accepted ∙
      text_grown (input_plan plan_a.bytes terms)

pub allowed_one : first (terms_causes (turning 1)) ≡ 0
unfolding terms_causes wrong_turnaround wrong_keeping cause first
allowed_one = refl

pub allowed_two : first (terms_causes (turning 2)) ≡ 0
unfolding terms_causes wrong_turnaround wrong_keeping cause first
allowed_two = refl

computed_two : grown_text (input_plan plan_a.bytes (turning 2)) ≡ as_text plan_alines_two_slots
unfolding grown_text from below sum select any member distinct leads_to may_follow along step run last_or holds ends_in is_interior or_else first_nonempty ends_below word_at contact_at records plan_of code codes powers_up_to digit_count decimal largest top_station input_stations input_slots field fields labelled heading line as_text grown grown_shortest onward grown_walks_to pairs_by load_by flat_map bind
computed_two = refl

computed_one : grown_text (input_plan plan_a.bytes (turning 1)) ≡ as_text plan_alines_one_slot
unfolding grown_text from below sum select any member distinct leads_to may_follow along step run last_or holds ends_in is_interior or_else first_nonempty ends_below word_at contact_at records plan_of code codes powers_up_to digit_count decimal largest top_station input_stations input_slots field fields labelled heading line as_text grown grown_shortest onward grown_walks_to pairs_by load_by flat_map bind
computed_one = refl

as_before : (bs : List ℕ) → printed bs (turning 1) ≡ printed_before bs
unfolding printed
as_before bs =
    ap (λ k. unless k refusal_text (loads_text (input_plan bs (turning 1)))) (without_terms (turning 1) allowed_one bs)

pub load_text : LoadText
load_text =
    record {
      plan_a_two_slots = plan_a_grown (turning 2) allowed_two ∙ computed_two;
      plan_a_one_slot = plan_a_grown (turning 1) allowed_one ∙ computed_one;
      one_slot_as_before = as_before;
    }
