-- Taking in and taking out as one: an entry, the search of the table, its writing, and how either operation begins.
-- Assumes nothing.
use Prim.Native.Nat.{ℕ, ◌+◌, ◌-◌, ◌<◌, ◌≤◌}
use native.Mathlib.Omega.{arith}
use native.Mathlib.Decide.{ℕ_discrete}
use mathlib.Core.Path.{◌≡◌, refl, sym, ap, ◌∙◌}
use mathlib.Core.Bool.{Bool, true, false}
use mathlib.Core.List.{List, [], ◌∷◌, ◌++◌}
use mathlib.Core.Logic.{by_cases}
use borrow.Author.Tests.{lt-ltb, le-ltb, ltb-false}
use lib.ListN.{length, get_or, set, take, drop, length-set, length-append, get_or-append}
use Rattle.std.proofs.lemmas.List.{length-take-le, get_or-take}
use Rattle.std.proofs.lemmas.Slice.{drop-append-drop}
use lib.Seq.{get_or-set_same, get_or-set_other, get_or-drop, drop-set-lt}
use Rattle.temporal.specs.Lists.{from, below, any}
use Rattle.temporal.specs.Cause.{cause, plan_causes, plan_fault}
use Rattle.temporal.specs.Outcome.{Outcome, entered, short}
use Rattle.temporal.specs.Band.{records_in, band_slots, taken_in, taken_out, over_band, under_band, take_in, take_out}
use Rattle.lists.proofs.BufferLaws.{over_by, length_made, get_d_made_law, later_drop}
use Rattle.walks.proofs.EnteredLaws.{refused_with, entered_plan, entered_call, entered_cause, entered_pass, entered_work}
use Rattle.lists.proofs.ListLaws.{any_false, any_ext, mem_below}
use Rattle.entries.proofs.SearchLaws.{any_found, any_pass, any_end, any_start}
use Rattle.plan.specs.Fault.{plan_number, call_number, check_number}
use Rattle.plan.specs.Record.{SlotRecords}
use Rattle.plan.specs.declared.PlanFault.{PlanFault}
use Rattle.plan.specs.declared.CallFault.{CallFault}
use Rattle.plan.proofs.Answers.{number-positive}
use Rattle.std.specs.Prelude.{Result, Err}
use Rattle.band.specs.Taking.{refuses, changed, refusal_number, refused_somewhere, changed_table, taken_by, Lent}
use Rattle.band.specs.declared.Taking.{Taking}
use Rattle.band.specs.declared.Taking.TheVariants.{In, Out}
use Rattle.band.proofs.SlotWalk.{Standing, standing_first, standing_next, slot_counted, accepted_slotted}

-- ---- one entry

module _ (taking : Taking) (entry more : ℕ) (free : refuses taking entry more ≡ false) where
  pub in_fits : (c : ℕ) → taking ≡ In c → entry + more ≤ c
  in_fits c e = ltb-false c (entry + more) (rw e at free)

  pub out_fits : taking ≡ Out → more ≤ entry
  out_fits e = ltb-false entry more (rw e at free)

-- ---- the search of the table

-- whether the entry at place j refuses
abbrev pub refuses_at : Taking → List ℕ → List ℕ → ℕ → Bool
refuses_at taking bs table j = refuses taking (get_or table j 0) (records_in bs (j + 1))

-- the entries before j do not refuse: the answer from here on is the whole answer
pub record Looking (taking : Taking) (bs table : List ℕ) (at j : ℕ) : Type 0 where
  pub within : j ≤ 255
  pub standing : Standing bs at (j + 1)
  pub rest : refused_somewhere taking bs table ≡ any (refuses_at taking bs table) (from j (255 - j))

module _ (taking : Taking) (bs table : List ℕ) (lent : Lent bs table) where
  pub looking_none : Looking taking bs table 0 0
  unfolding refused_somewhere
  looking_none =
      record {
        within = omega arith;
        standing = standing_first bs lent.slotted;
        rest = any_start (refuses_at taking bs table) 255;
      }

  module _ (at j : ℕ) (l : Looking taking bs table at j) (less : j < 255) (e : ℕ) (found : SlotRecords bs (j + 1) at e) where
    -- what the entry answers
    answer : (r : Bool) → r ≡ refuses taking (get_or table j 0) (e - at) → refuses_at taking bs table j ≡ r
    answer r is = sym (is ∙ ap (refuses taking (get_or table j 0)) (slot_counted bs lent.slotted at (j + 1) l.standing e found))

    pub looking_found : (r : Bool) → r ≡ refuses taking (get_or table j 0) (e - at) → r ≡ true → refused_somewhere taking bs table ≡ true
    looking_found r is holds = l.rest ∙ any_found (refuses_at taking bs table) j 255 less (answer r is ∙ holds)

    pub looking_more : (r : Bool) → r ≡ refuses taking (get_or table j 0) (e - at) → r ≡ false → Looking taking bs table e (j + 1)
    looking_more r is fails =
        record {
          within = omega arith;
          standing = standing_next bs lent.slotted at (j + 1) l.standing e found;
          rest = l.rest ∙ any_pass (refuses_at taking bs table) j 255 less (answer r is ∙ fails);
        }

  pub looking_all : (at j : ℕ) → Looking taking bs table at j → 255 ≤ j → refused_somewhere taking bs table ≡ false
  looking_all at j l h = l.rest ∙ any_end (refuses_at taking bs table) j 255 h

-- ---- the writing of the table

-- the entries before j are written
pub record Changing (taking : Taking) (bs old : List ℕ) (at j : ℕ) (now : List ℕ) : Type 0 where
  pub within : j ≤ 255
  pub standing : Standing bs at (j + 1)
  pub same : length now ≡ length old
  pub done : (k : ℕ) → k < j → get_or now k 0 ≡ changed taking (get_or old k 0) (records_in bs (k + 1))
  pub rest : drop j now ≡ drop j old

module _ (taking : Taking) (bs old : List ℕ) (lent : Lent bs old) (free : refused_somewhere taking bs old ≡ false) where
  pub changing_none : Changing taking bs old 0 0 old
  changing_none =
      record {
        within = omega arith;
        standing = standing_first bs lent.slotted;
        same = refl;
        done = λ k h. absurd (omega arith);
        rest = refl;
      }

  module _ (at j : ℕ) (now : List ℕ) (g : Changing taking bs old at j now) (less : j < 255) (e : ℕ)
      (found : SlotRecords bs (j + 1) at e) where
    counted : e - at ≡ records_in bs (j + 1)
    counted = slot_counted bs lent.slotted at (j + 1) g.standing e found

    entry_old : get_or now j 0 ≡ get_or old j 0
    entry_old =
        let here : j + 0 ≡ j = omega arith in
        rw here at (sym (get_or-drop j now 0 0) ∙ ap (λ l. get_or l 0 0) g.rest ∙ get_or-drop j old 0 0)

    -- the entry takes the slot's records
    pub changing_free : refuses taking (get_or now j 0) (e - at) ≡ false
    unfolding refused_somewhere
    changing_free = rw (counted, entry_old) ((any_false (refuses_at taking bs old) (below 255)).0 free j ((mem_below 255).1 less))

    pub changing_more : (x : ℕ) → x ≡ changed taking (get_or now j 0) (e - at) → Changing taking bs old e (j + 1) (set now j x)
    changing_more x is =
        let room = lent.room in
        let same = g.same in
        record {
          within = omega arith;
          standing = standing_next bs lent.slotted at (j + 1) g.standing e found;
          same = length-set now j x ∙ g.same;
          done = λ k h.
              by_cases (ℕ_discrete k j)
              (λ here. rw here (get_or-set_same now j x 0 (omega arith) ∙ is ∙ rw (counted, entry_old)))
              (λ other. get_or-set_other {A = ℕ} now j k x 0 other ∙ g.done k (omega arith));
          rest = drop-set-lt (j + 1) now j x (omega arith) ∙ later_drop j (j + 1) now old (omega arith) g.rest;
        }

-- the table is written by its first 255 entries
module _ (bs old : List ℕ) (lent : Lent bs old) where
  size : length (take 255 old) ≡ 255
  size = length-take-le 255 old lent.room

  pub first_lent : Lent bs (take 255 old)
  first_lent = record { slotted = lent.slotted; room = omega (arith, size) }

  pub first_free : (taking : Taking) → refused_somewhere taking bs old ≡ false → refused_somewhere taking bs (take 255 old) ≡ false
  unfolding refused_somewhere
  first_free taking free =
      any_ext (below 255) (λ j m. ap (λ x. refuses taking x (records_in bs (j + 1))) (get_or-take 255 old j 0 ((mem_below 255).0 m))) ∙
      free

  pub changing_all : (taking : Taking) (at j : ℕ) (now : List ℕ) → Changing taking bs (take 255 old) at j now → 255 ≤ j →
      now ++ drop 255 old ≡ changed_table taking bs old
  unfolding changed_table
  changing_all taking at j now g h =
      let within = g.within in
      let whole : length now ≡ 255 = g.same ∙ size in
      over_by 255 (now ++ drop 255 old) _ old (length_made _ 255) (omega (arith, length-append now (drop 255 old)))
      (λ i inside.
      get_or-append now (drop 255 old) 0 i (omega arith) ∙ g.done i (omega arith) ∙
      ap (λ x. changed taking x (records_in bs (i + 1))) (get_or-take 255 old i 0 inside) ∙
      sym (get_d_made_law (λ k. changed taking (get_or old k 0) (records_in bs (k + 1))) 255 i inside))
      (drop-append-drop 255 old now 255 (omega arith) whole)

-- ---- how either operation begins

module _ (bs : List ℕ) (n t : ℕ) (old : List ℕ) where
  -- the work
  work : Taking → Outcome (Unit {0}) (List ℕ)
  work taking = record { number = 0; values = tt; buffers = changed_table taking bs old }

  -- the causes, with 15 or 16 last
  rest : Taking → List ℕ
  rest taking = cause 8 (short band_slots old) ∷ cause (refusal_number taking) (refused_somewhere taking bs old) ∷ []

  begins : (taking : Taking) → taken_by taking bs n t old ≡ entered (plan_causes bs n t ++ rest taking) tt old (work taking)
  unfolding taken_by take_in take_out over_band under_band taken_in taken_out refused_somewhere changed_table work rest
  begins (In c) = refl
  begins Out = refl

  -- what going through the slots asks
  pub taken_lent : plan_fault bs n t ≡ 0 → 255 ≤ length old → Lent bs old
  taken_lent ok long = record { slotted = accepted_slotted bs n t ok; room = long }

  module _ (taking : Taking) where
    -- a plan that check refuses
    pub taken_plan : (r : Result (Unit {0}) PlanFault) (f : PlanFault) → check_number r ≡ plan_fault bs n t → r ≡ Err f
        → ◌≡◌ {A = Outcome (Unit {0}) (List ℕ)} (record { number = plan_number f; values = tt; buffers = old }) (taken_by taking bs n t old)
    taken_plan r f answer e =
        let number : plan_number f ≡ plan_fault bs n t = ap check_number (sym e) ∙ answer in
        let some = number-positive f in
        ap (refused_with tt old (work taking)) number ∙
        sym (begins taking ∙ entered_plan tt old (work taking) bs n t _ (omega arith))

    module _ (ok : plan_fault bs n t ≡ 0) where
      after_plan : taken_by taking bs n t old ≡ entered (rest taking) tt old (work taking)
      after_plan = begins taking ∙ entered_call tt old (work taking) bs n t _ ok

      -- 8
      pub taken_short : length old < 255
          → ◌≡◌ {A = Outcome (Unit {0}) (List ℕ)} (record { number = 8; values = tt; buffers = old }) (taken_by taking bs n t old)
      unfolding rest
      taken_short h = sym (after_plan ∙ entered_cause tt old (work taking) 7 _ _ (lt-ltb (length old) 255 h))

      module _ (long : 255 ≤ length old) where
        after_short : taken_by taking bs n t old ≡
            entered (cause (refusal_number taking) (refused_somewhere taking bs old) ∷ []) tt old (work taking)
        unfolding rest
        after_short = after_plan ∙ entered_pass tt old (work taking) 8 _ _ (le-ltb (length old) 255 long)

        -- neither 15 nor 16
        pub taken_free : (r : Bool) → r ≡ refused_somewhere taking bs old → r ≡ false → (new : List ℕ) → new ≡ changed_table taking bs old
            → ◌≡◌ {A = Outcome (Unit {0}) (List ℕ)} (record { number = 0; values = tt; buffers = new }) (taken_by taking bs n t old)
        unfolding work
        taken_free r is fails new e =
            ap (λ l. record { number = 0; values = tt; buffers = l }) e ∙
            sym (after_short ∙ entered_pass tt old (work taking) _ _ [] (sym is ∙ fails) ∙ entered_work tt old (work taking))

  -- 15 or 16
  refused_by : (taking : Taking) → refused_somewhere taking bs old ≡ true
      → entered (cause (refusal_number taking) (refused_somewhere taking bs old) ∷ []) tt old (work taking) ≡
      refused_with tt old (work taking) (refusal_number taking)
  refused_by (In c) e = entered_cause tt old (work (In c)) 14 _ [] e
  refused_by Out e = entered_cause tt old (work Out) 15 _ [] e

  module _ (taking : Taking) (ok : plan_fault bs n t ≡ 0) (long : 255 ≤ length old) where
    pub taken_refused : (r : Bool) → r ≡ refused_somewhere taking bs old → r ≡ true → (f : CallFault) → call_number f ≡ refusal_number taking
        → ◌≡◌ {A = Outcome (Unit {0}) (List ℕ)} (record { number = call_number f; values = tt; buffers = old }) (taken_by taking bs n t old)
    taken_refused r is holds f number =
        ap (refused_with tt old (work taking)) number ∙ sym (after_short taking ok long ∙ refused_by taking (sym is ∙ holds))
