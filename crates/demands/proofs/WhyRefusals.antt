-- The refusals of an account: which number it prints, and how it goes with the load program's. Assumes nothing.
use Prim.Native.Nat.{ℕ, zero, suc, ◌≤◌, ◌<◌, min}
use native.Mathlib.Omega.{arith}
use mathlib.Core.Path.{◌≡◌, refl, sym, ap, ◌∙◌}
use mathlib.Core.Bool.{false}
use mathlib.Core.List.{List, [], ◌∷◌, ◌++◌, flat_map}
use mathlib.Core.Logic.{◌⊎◌, ⊎_map, ◌↔◌, ◌≢◌}
use borrow.Author.Tests.{le-leb, lt-leb, leb-true, leb-false}
use lib.Dec.{leb}
use lib.ListN.{length, get_or}
use Rattle.temporal.specs.Plan.{Terms}
use Rattle.temporal.specs.Load.{pairs_of, pairs, load}
use Rattle.temporal.specs.Bytes.{contact_at, plan_of}
use Rattle.temporal.specs.Cause.{first, unless, plan_fault, plan_causes, terms_causes, too_many_anywhere}
use Rattle.walks.proofs.EnteredLaws.{unless_some, unless_none}
use Rattle.walks.proofs.NumberLaws.{none_has, cause_has, append_has, plan_has}
use Rattle.text.specs.Decimal.{code, codes, powers_up_to, digit_count, decimal}
use Rattle.text.specs.Field.{field, labelled}
use Rattle.report.specs.Sizes.{input_stations, input_slots}
use Rattle.report.specs.Report.{loads_text, refusal_text, input_causes, input_plan, printed}
use Rattle.report.specs.Report as report
use Rattle.account.specs.Account.{most_walks, station_line, pair_text, account_text, refusal_of, accounted}
use Rattle.demands.specs.LoadText.{as_text}
use Rattle.demands.specs.Why.{InputAccepted, SameFigures}
use Rattle.demands.proofs.RefusalLaws as refusal

-- the two lines
refused_six : refusal_text 6 ≡ as_text ("refused 6" ∷ [])
unfolding refusal_text field code codes powers_up_to digit_count decimal as_text flat_map
refused_six = refl

refused_nine : refusal_text 9 ≡ as_text ("refused 9" ∷ [])
unfolding refusal_text field code codes powers_up_to digit_count decimal as_text flat_map
refused_nine = refl

-- the causes before the station's are not 6
other_than_six :
    (bs : List ℕ) (n t : ℕ) (terms : Terms) → first (input_causes bs ++ (plan_causes bs n t ++ terms_causes terms)) ≢ 6
unfolding input_causes terms_causes
other_than_six bs n t terms =
    append_has Other none (input_causes bs) _
    (cause_has Other none 2 _ _ (λ e. omega arith) (cause_has Other none 1 _ [] (λ e. omega arith) (none_has Other none)))
    (append_has Other none (plan_causes bs n t) _
    (plan_has Other none (λ e. omega arith) (λ e. omega arith) (λ e. omega arith) (λ e. omega arith) (λ e. omega arith) bs n t)
    (cause_has Other none 12 _ _ (λ e. omega arith) (cause_has Other none 14 _ [] (λ e. omega arith) (none_has Other none))))
  where
    Other : ℕ → Type 0
    Other k = k ≢ 6

    none : Other 0
    none e = omega arith

module _ (bs : List ℕ) (terms : Terms) (v : ℕ) where
  abbrev n : ℕ
  n = input_stations bs

  -- 0 exactly where nothing is refused
  pub accepted_exactly :
      (refusal_of bs terms v ≡ 0) ↔ (InputAccepted bs terms × (v < n) × (too_many_anywhere (input_plan bs terms) ≡ false))
  unfolding refusal_of plan_fault
  accepted_exactly =
      let both = refusal.zero_exactly (input_causes bs) (plan_causes bs n (input_slots bs)) (terms_causes terms) (leb n v)
      (too_many_anywhere (input_plan bs terms)) in (
        λ e.
            let (i, j, k, a, b) = both.0 e in
            (record { input = i; plan = j; allowed = k }, leb-false n v a, b),
        λ h. both.1 (h.0.input, h.0.plan, h.0.allowed, lt-leb n v h.1, h.2),
      )

  -- 6 exactly where all before it is accepted and v is not below n
  pub six_exactly : (refusal_of bs terms v ≡ 6) ↔ (InputAccepted bs terms × (n ≤ v))
  unfolding refusal_of plan_fault
  six_exactly =
      let both = refusal.six_exactly (input_causes bs) (plan_causes bs n (input_slots bs)) (terms_causes terms) (leb n v)
      (too_many_anywhere (input_plan bs terms)) (other_than_six bs n (input_slots bs) terms) in (
        λ e. let (i, j, k, a) = both.0 e in (record { input = i; plan = j; allowed = k }, leb-true n v a),
        λ h. both.1 (h.0.input, h.0.plan, h.0.allowed, le-leb n v h.1),
      )

  -- where the load program refuses nothing and v is below n
  pub none_beside : report.refusal_of bs terms ≡ 0 → v < n → refusal_of bs terms v ≡ 0
  unfolding refusal_of report.refusal_of
  none_beside e inside =
      refusal.none_of_both (input_causes bs) (plan_causes bs n (input_slots bs)) (terms_causes terms) (leb n v)
      (too_many_anywhere (input_plan bs terms)) e (lt-leb n v inside)

  module _ (k : ℕ) where
    pub refused : refusal_of bs terms v ≢ 0 → accounted bs terms v k ≡ refusal_text (refusal_of bs terms v)
    unfolding accounted
    refused holds = unless_some (refusal_of bs terms v) _ _ (omega arith)

    -- the account is printed exactly at 0
    pub printed_exactly :
        (refusal_of bs terms v ≡ 0) ↔
        (accounted bs terms v k ≡ account_text (contact_at bs) (input_plan bs terms) v (min k most_walks))
    unfolding accounted account_text station_line labelled refusal_text
    printed_exactly = (
      λ e. unless_none (refusal_of bs terms v) refusal_text _ e,
      λ e. decide (refusal_of bs terms v) refl e,
    )
      where
        -- the texts begin with different letters
        decide : (r : ℕ) → refusal_of bs terms v ≡ r
            → accounted bs terms v k ≡ account_text (contact_at bs) (input_plan bs terms) v (min k most_walks)
            → refusal_of bs terms v ≡ 0
        decide zero q e = q
        decide (suc r) q e =
            let z : ◌≡◌ {A = ℕ} 114 115 = ap (λ l. get_or l 0 0) (sym (refused (λ o. omega arith)) ∙ e) in absurd (omega arith)

    refused_with_law : (r : ℕ) → refusal_of bs terms v ≡ suc r → accounted bs terms v k ≡ refusal_text (suc r)
    refused_with_law r e = refused (λ none. omega arith) ∙ ap refusal_text e

    -- a number above the most counts as the most
    pub limited : most_walks ≤ k → accounted bs terms v k ≡ accounted bs terms v most_walks
    unfolding accounted
    limited h =
        let same : min k most_walks ≡ min most_walks most_walks = omega arith in
        ap (λ j. unless (refusal_of bs terms v) refusal_text (account_text (contact_at bs) (input_plan bs terms) v j)) same

    pub six_printed : InputAccepted bs terms → n ≤ v → accounted bs terms v k ≡ as_text ("refused 6" ∷ [])
    six_printed h outside = refused_with_law 5 (six_exactly.1 (h, outside)) ∙ refused_six

    -- a refusal of the load program other than 9
    pub same_refusal :
        report.refusal_of bs terms ≢ 0 → report.refusal_of bs terms ≢ 9 →
        (refusal_of bs terms v ≡ report.refusal_of bs terms) × (accounted bs terms v k ≡ printed bs terms)
    unfolding refusal_of report.refusal_of printed
    same_refusal holds other =
        let same =
        refusal.same_number (input_causes bs) (plan_causes bs n (input_slots bs)) (terms_causes terms) (leb n v)
        (too_many_anywhere (input_plan bs terms)) holds other in (
          same,
          refused (λ none. holds (sym same ∙ none)) ∙
              (ap refusal_text same ∙ sym (unless_some (report.refusal_of bs terms) refusal_text _ (omega arith))),
        )

    pub beside_nine :
        report.refusal_of bs terms ≡ 9 →
        (accounted bs terms v k ≡ as_text ("refused 6" ∷ [])) ⊎ (accounted bs terms v k ≡ as_text ("refused 9" ∷ []))
    unfolding refusal_of report.refusal_of
    beside_nine e =
        ⊎_map (λ six. refused_with_law 5 six ∙ refused_six) (λ nine. refused_with_law 8 nine ∙ refused_nine)
        (refusal.six_or_nine (input_causes bs) (plan_causes bs n (input_slots bs)) (terms_causes terms) (leb n v)
        (too_many_anywhere (input_plan bs terms)) e)

    -- where the load program prints loads
    pub same_figures : report.refusal_of bs terms ≡ 0 → v < n → SameFigures bs terms v k
    unfolding printed loads_text plan_of account_text
    same_figures e inside =
        let p = input_plan bs terms in
        record {
          contacts = length p.contacts;
          pairs = pairs p;
          load = load p;
          behind = flat_map (pair_text (contact_at bs) p v (min k most_walks)) (pairs_of p v);
          loads_text_law = unless_none (report.refusal_of bs terms) refusal_text (loads_text p) e;
          account_text_law = printed_exactly.0 (none_beside e inside);
        }
