-- What the load program prints, from what loads answers. Assumes nothing.
use Prim.Native.Nat.{ℕ, zero, suc, ◌+◌, ◌/◌, ◌%◌, ◌<◌, ◌≤◌}
use native.Mathlib.Omega.{arith}
use native.Mathlib.Nat.{zero-add, mul-le-mul}
use mathlib.Core.Path.{◌≡◌, refl, sym, ap, ap₂, ◌∙◌}
use mathlib.Core.Bool.{Bool, true, false, not}
use mathlib.Core.List.{List, [], ◌∷◌, ◌++◌, map, flat_map}
use lib.Dec.{eqb, ltb}
use lib.ListN.{length, get_or, drop, length-append}
use borrow.Author.Tests.{ltb-false}
use Rattle.temporal.specs.Lists.{from, below}
use Rattle.temporal.specs.Plan.{Plan, Terms}
use Rattle.temporal.specs.Load.{pairs, load}
use Rattle.temporal.specs.Bytes.{plan_of, records}
use Rattle.temporal.specs.Cause.{cause, first, plan_causes, plan_fault, terms_causes, too_many_anywhere}
use Rattle.temporal.specs.Outcome.{Outcome, over, work_size}
use Rattle.temporal.specs.OutcomePair.{LoadBuffers, partly_loaded, partial_loads, loads}
use Rattle.lists.proofs.BufferLaws.{written, length_made}
use Rattle.temporal.proofs.CauseLaws.{
  first_true,
  first_false,
  first_append_none,
  first_append_some,
  first_append_left,
  first_append_right,
  first_head,
  or_false_left,
  or_false_right,
}
use Rattle.walks.proofs.EnteredLaws.{unless_some, unless_none, entered_plan, entered_call, entered_some}
use Rattle.walks.proofs.PlanLaws.{contacts_length}
use Rattle.std.specs.Prelude.{Result, Ok, Err}
use Rattle.plan.specs.Fault.{fault_number, answer_number}
use Rattle.plan.specs.declared.Fault.{Fault}
use Rattle.plan.proofs.Answers.{fault-number-within}
use Rattle.loads.specs.Answer.{load_buffers, loads_outcome}
use Rattle.loads.proofs.LoadLaws.{loads_works}
use Rattle.text.specs.Written as text
use Rattle.text.proofs.PieceLaws.{pieces_all}
use Rattle.text.specs.Decimal.{decimal}
use Rattle.text.proofs.DecimalLaws.{decimal_most}
use Rattle.report.specs.Sizes.{input_stations, input_slots, wrong_input, over_limits}
use Rattle.text.specs.Field.{ascii, line_feed, field}
use Rattle.report.specs.Report.{heading, line, loads_text, refusal_text, input_causes, refusal_of, printed, lent_after, Texted, Reported}
use Rattle.report.specs.Work.{lines_of, table_of, Printable, Within}
use Rattle.report.proofs.LengthLaws.{text_length}

-- ---- the text of a refusal

refusal_length : (k : ℕ) → length (refusal_text k) ≡ 9 + length (decimal k)
unfolding refusal_text field
refusal_length k =
    length-append (ascii "refused ") (decimal k ++ line_feed) ∙ rw (length-append (decimal k) line_feed) (omega arith)

-- it fits the output buffer
pub refusal_room : (k size : ℕ) → 697 ≤ size → 0 + length (refusal_text k) ≤ size
refusal_room k size e = omega (arith, refusal_length k, decimal_most k)

-- ---- from a text written at the beginning to the contract

pub report_text :
    (bs : List ℕ) (terms : Terms) (out : List ℕ) (old : LoadBuffers) (r : ℕ) (now : List ℕ) (new : LoadBuffers) (t : List ℕ) →
    text.Put 0 t out r now → t ≡ printed bs terms → new ≡ lent_after bs terms old → Reported bs terms out old r now new
unfolding text.written over
report_text bs terms out old r now new t p e l =
    record {
      texted = record {
        length_is = p.place ∙ zero-add (length t) ∙ ap length e;
        text_is = p.contents ∙ ap (λ k. t ++ drop k out) (zero-add (length t)) ∙ ap (λ x. x ++ drop (length x) out) e;
      };
      lent_is = l;
    }

-- a buffer whose beginning is written has at least as many entries
pub length_over : (new old : List ℕ) → length new ≤ length (over new old)
unfolding over
length_over new old = omega (arith, length-append new (drop (length new) old))

-- the text lies within the output buffer
pub texted_within :
    {bs : List ℕ} {terms : Terms} {out : List ℕ} {size : ℕ} {now : List ℕ} → Texted bs terms out size now → size ≤ length now
texted_within {bs} {terms} {out} r =
    omega (arith, r.length_is, ap length r.text_is, length_over (printed bs terms) out)

-- ---- the lines of stations whose entries are the same

pub flat_map_ext_law :
    (f g : ℕ → List ℕ) (i k : ℕ) → ((v : ℕ) → v < i + k → f v ≡ g v) → flat_map f (from i k) ≡ flat_map g (from i k)
unfolding from flat_map
flat_map_ext_law f g i zero h = refl
flat_map_ext_law f g i (suc k) h = ap₂ ◌++◌ (h i (omega arith)) (flat_map_ext_law f g (suc i) k (λ v q. h v (omega arith)))

-- ---- an input that is refused before the plan is looked at

module _ (bs : List ℕ) (terms : Terms) (k : ℕ) (e : first (input_causes bs) ≡ suc k) where
  refused_input : refusal_of bs terms ≡ suc k
  unfolding refusal_of
  refused_input = first_append_some (input_causes bs) _ (omega arith) ∙ e

  pub printed_input : refusal_text (suc k) ≡ printed bs terms
  unfolding printed
  printed_input = sym (unless_some (refusal_of bs terms) _ _ (omega (arith, refused_input)) ∙ ap refusal_text refused_input)

  pub lent_input : (old : LoadBuffers) → old ≡ lent_after bs terms old
  unfolding lent_after
  lent_input old = sym (unless_some (first (input_causes bs)) _ _ (omega arith))

module _ (bs : List ℕ) where
  pub wrong_length_law : wrong_input bs ≡ true → first (input_causes bs) ≡ 2
  unfolding input_causes
  wrong_length_law e = first_true 1 (wrong_input bs) _ e

  pub wrong_limits : wrong_input bs ≡ false → over_limits (input_stations bs) (input_slots bs) ≡ true → first (input_causes bs) ≡ 1
  unfolding input_causes
  wrong_limits a b = first_false 2 (wrong_input bs) _ a ∙ first_true 0 (over_limits (input_stations bs) (input_slots bs)) _ b

  no_input_cause : wrong_input bs ≡ false → over_limits (input_stations bs) (input_slots bs) ≡ false → first (input_causes bs) ≡ 0
  unfolding input_causes first
  no_input_cause a b =
      first_false 2 (wrong_input bs) (cause 1 (over_limits (input_stations bs) (input_slots bs)) ∷ []) a ∙
      first_false 1 (over_limits (input_stations bs) (input_slots bs)) [] b

-- ---- an input within the limits

pub limit_stations : (n t : ℕ) → over_limits n t ≡ false → n ≤ 32
unfolding over_limits
limit_stations n t e = ltb-false 32 n (or_false_left (ltb 32 n) (ltb 63 t) e)

module _ (bs : List ℕ) (n t : ℕ) (terms : Terms) (out ps ls area : List ℕ) (w : Within bs n t out ps ls area) where
  abbrev old : LoadBuffers
  old = load_buffers ps ls area

  abbrev plan : Plan
  plan = plan_of bs n t terms

  pub few_stations : n ≤ 32
  few_stations = limit_stations n t w.limits

  pub few_slots : t ≤ 63
  unfolding over_limits
  few_slots = ltb-false 63 t (or_false_right (ltb 32 n) (ltb 63 t) w.limits)

  pub few_records : records bs ≤ 1024
  unfolding wrong_input
  few_records =
      ltb-false 1024 (records bs) (or_false_right (not (eqb (length bs % 6) 0)) (ltb 1024 (records bs)) w.right_input)

  pub passes : first (input_causes bs) ≡ 0
  passes = no_input_cause bs w.right_input (rw (← w.stations, ← w.slots) w.limits)

  -- the numbers of the plan's causes, 12, 14 and 9 are what loads answers
  unfoldable pub causes : List ℕ
  causes = plan_causes bs n t ++ (terms_causes terms ++ cause 9 (too_many_anywhere plan) ∷ [])

  work_room : work_size n t ≤ length area
  work_room = omega (arith, w.work_size_law, mul-le-mul few_stations (slots_more few_slots))
    where
      slots_more : t ≤ 63 → t + 1 ≤ 64
      slots_more h = omega arith

  loaded_number : (partly_loaded plan n old).number ≡ first (cause 9 (too_many_anywhere plan) ∷ [])
  unfolding partly_loaded cause first plan_of
  loaded_number = decide (too_many_anywhere plan) refl
    where
      decide : (b : Bool) → too_many_anywhere plan ≡ b → (partly_loaded plan n old).number ≡ first (cause 9 (too_many_anywhere plan) ∷ [])
      decide true e = rw e
      decide false e = rw e

  works : plan_fault bs n t ≡ 0 → first (terms_causes terms) ≡ 0 → loads bs n t terms old ≡ partly_loaded plan n old
  works ok right =
      loads_works bs n t terms n ps ls area ok right (omega arith) (omega (arith, few_stations, w.pairs_size))
      (omega (arith, few_stations, w.loads_size)) work_room

  pub loads_number_law : (loads bs n t terms old).number ≡ first causes
  unfolding causes plan_fault partial_loads
  loads_number_law = decide (plan_fault bs n t) (first (terms_causes terms)) refl refl
    where
      decide :
          (k j : ℕ) → plan_fault bs n t ≡ k → first (terms_causes terms) ≡ j → (loads bs n t terms old).number ≡ first causes
      decide (suc k) j e _ =
          ap (λ o. o.number) (entered_plan tt old _ bs n t _ (omega arith)) ∙
          sym (first_append_some (plan_causes bs n t) _ (omega arith))
      decide zero (suc j) e q =
          ap (λ o. o.number) (entered_call tt old _ bs n t _ e ∙ entered_some tt old _ (terms_causes terms) _ (omega arith)) ∙
          sym (first_append_none (plan_causes bs n t) _ e ∙ first_append_some (terms_causes terms) _ (omega arith))
      decide zero zero e q =
          ap (λ o. o.number) (works e q) ∙ loaded_number ∙
          sym (first_append_none (plan_causes bs n t) _ e ∙ first_append_none (terms_causes terms) _ q)

  refusal_number_law : refusal_of bs terms ≡ (loads bs n t terms old).number
  unfolding refusal_of causes
  refusal_number_law =
      first_append_none (input_causes bs) _ passes ∙ rw (← w.stations, ← w.slots) (sym loads_number_law)

  module _ (b : LoadBuffers) (k : ℕ)
      (answer : ◌≡◌ {A = Outcome (Unit {0}) LoadBuffers} (record { number = k; values = tt; buffers = b }) (loads bs n t terms old)) where
    -- the lent tables are as loads leaves them
    lent_by : b ≡ lent_after bs terms old
    unfolding lent_after
    lent_by =
        ap (λ o. o.buffers) answer ∙
        sym (unless_none (first (input_causes bs)) _ _ passes ∙ rw (← w.stations, ← w.slots) refl)

    number_is : refusal_of bs terms ≡ k
    number_is = refusal_number_law ∙ sym (ap (λ o. o.number) answer)

  -- a refusal
  printed_by :
      (f : Fault) (b : LoadBuffers) →
      ◌≡◌ {A = Outcome (Unit {0}) LoadBuffers} (record { number = fault_number f; values = tt; buffers = b }) (loads bs n t terms old) →
      refusal_text (fault_number f) ≡ printed bs terms
  unfolding printed
  printed_by f b answer =
      let e = number_is b (fault_number f) answer in
      sym (unless_some (refusal_of bs terms) _ _ (omega (arith, e, fault-number-within f)) ∙ ap refusal_text e)

  -- loads: the tables have the pairs and the loads
  module _ (ps' ls' area' : List ℕ)
      (answer : ◌≡◌ {A = Outcome (Unit {0}) LoadBuffers}
      (record { number = 0; values = tt; buffers = load_buffers ps' ls' area' }) (loads bs n t terms old)) where
    none : first causes ≡ 0
    none = sym (ap (λ o. o.number) answer ∙ loads_number_law)

    pub no_fault : plan_fault bs n t ≡ 0
    unfolding causes plan_fault
    no_fault = first_append_left (plan_causes bs n t) _ none

    rest : first (terms_causes terms ++ cause 9 (too_many_anywhere plan) ∷ []) ≡ 0
    unfolding causes
    rest = first_append_right (plan_causes bs n t) _ none

    pub right : first (terms_causes terms) ≡ 0
    right = first_append_left (terms_causes terms) _ rest

    pub not_many : too_many_anywhere plan ≡ false
    not_many = first_head 8 (too_many_anywhere plan) [] (first_append_right (terms_causes terms) _ rest)

    tables :
        load_buffers ps' ls' area' ≡ (partly_loaded plan n old).buffers
    tables = ap (λ o. o.buffers) (answer ∙ works no_fault right)

    pub pairs_table_law : ps' ≡ over (map (pairs plan) (below n)) ps
    unfolding partly_loaded plan_of
    pairs_table_law = ap (λ x. x.pairs_table) tables ∙ rw not_many refl

    pub loads_table : ls' ≡ over (map (load plan) (below n)) ls
    unfolding partly_loaded plan_of
    loads_table = ap (λ x. x.load_table) tables ∙ rw not_many refl

    lines_same : lines_of ps' ls' n ≡ flat_map (λ v. line v (pairs plan v) (load plan v)) (below n)
    unfolding below
    lines_same =
        pieces_all _ n ∙
        flat_map_ext_law _ _ 0 n (λ v h.
        ap₂ (line v) (ap (λ x. get_or x v 0) pairs_table_law ∙ written (pairs plan) n v ps (omega arith))
        (ap (λ x. get_or x v 0) loads_table ∙ written (load plan) n v ls (omega arith)))

    table_same : table_of ps' ls' n t (length bs / 6) ≡ loads_text plan
    unfolding table_of loads_text plan_of records
    table_same = ap₂ (λ m x. heading n t m ++ x) (sym (contacts_length bs n t terms)) lines_same

    printed_table : table_of ps' ls' n t (length bs / 6) ≡ printed bs terms
    unfolding printed
    printed_table =
        table_same ∙ sym (unless_none (refusal_of bs terms) _ _ (number_is (load_buffers ps' ls' area') 0 answer) ∙
        rw (← w.stations, ← w.slots) refl)

    -- the tables have an entry for each station, and the text has room
    pub printable : Printable 0 n ps' ls' (table_of ps' ls' n t (length bs / 6)) out
    unfolding plan_of
    printable =
        record {
          pairs_room = made_room (pairs plan) ps ps' pairs_table_law;
          loads_room = made_room (load plan) ls ls' loads_table;
          text_room =
              omega (
                arith,
                w.out_size,
                ap length table_same,
                text_length plan few_stations few_slots (omega (arith, contacts_length bs n t terms, few_records)),
              );
        }
      where
        made_room : (f : ℕ → ℕ) (l l' : List ℕ) → l' ≡ over (map f (below n)) l → n ≤ length l'
        made_room f l l' e = omega (arith, ap length e, length_over (map f (below n)) l, length_made f n)

  -- the same of an answer of the code
  module _ (r : Result (Unit {0}) Fault) (ps' ls' area' : List ℕ)
      (e : loads_outcome r (load_buffers ps' ls' area') ≡ loads bs n t terms (load_buffers ps ls area)) where
    pub lent_within : load_buffers ps' ls' area' ≡ lent_after bs terms (load_buffers ps ls area)
    lent_within = lent_by (load_buffers ps' ls' area') (answer_number r) e

    module _ (told : r ≡ Ok tt) where
      answer :
          ◌≡◌ {A = Outcome (Unit {0}) LoadBuffers}
          (record { number = 0; values = tt; buffers = load_buffers ps' ls' area' }) (loads bs n t terms old)
      answer = ap (λ a. loads_outcome a (load_buffers ps' ls' area')) (sym told) ∙ e

      pub loads_printable : Printable 0 n ps' ls' (table_of ps' ls' n t (length bs / 6)) out
      loads_printable = printable ps' ls' area' answer

      pub printed_loads : table_of ps' ls' n t (length bs / 6) ≡ printed bs terms
      printed_loads = printed_table ps' ls' area' answer

    pub printed_refused : (f : Fault) (k : ℕ) → r ≡ Err f → k ≡ fault_number f → refusal_text k ≡ printed bs terms
    printed_refused f k told number =
        ap refusal_text number ∙
        printed_by f (load_buffers ps' ls' area') (ap (λ a. loads_outcome a (load_buffers ps' ls' area')) (sym told) ∙ e)
