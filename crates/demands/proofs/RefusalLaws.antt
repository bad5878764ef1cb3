-- Causes that two lists have in common, then 6 in one of them, then 9 in both: how their first numbers go together. Assumes nothing.
use Prim.Native.Nat.{ℕ, zero, suc}
use native.Mathlib.Omega.{arith}
use mathlib.Core.Path.{◌≡◌, refl, sym, ap, ◌∙◌}
use mathlib.Core.Bool.{Bool, true, false, cond}
use mathlib.Core.List.{List, [], ◌∷◌, ◌++◌, append_assoc}
use mathlib.Core.Logic.{◌⊎◌, inl, inr, ◌↔◌, ◌≢◌}
use Rattle.temporal.specs.Cause.{cause, first}
use Rattle.temporal.proofs.CauseLaws.{first_append_none, first_append_some, first_append_left, first_append_right}
use Rattle.lists.proofs.ListLaws.{not_both}

-- the first number of causes that begin with k, then 6, then 9
unfoldable number : ℕ → Bool → Bool → ℕ
number zero a b = cond a 6 (cond b 9 0)
number (suc k) a b = suc k

six_nine_law : (a b : Bool) → first (cause 6 a ∷ cause 9 b ∷ []) ≡ number 0 a b
unfolding number first cause
six_nine_law true b = refl
six_nine_law false true = refl
six_nine_law false false = refl

nine : (b : Bool) → first (cause 9 b ∷ []) ≡ number 0 false b
unfolding number first cause
nine true = refl
nine false = refl

-- causes in common, and what follows them
common : (c rest : List ℕ) (a b : Bool) → first rest ≡ number 0 a b → first (c ++ rest) ≡ number (first c) a b
unfolding number
common c rest a b e = decide (first c) refl
  where
    decide : (k : ℕ) → first c ≡ k → first (c ++ rest) ≡ number k a b
    decide zero q = first_append_none c rest q ∙ e
    decide (suc k) q = first_append_some c rest (omega arith) ∙ q

number_zero : (k : ℕ) (a b : Bool) → (number k a b ≡ 0) ↔ ((k ≡ 0) × (a ≡ false) × (b ≡ false))
unfolding number
number_zero zero true b = (λ e. absurd (omega arith), λ h. absurd (not_both refl h.1))
number_zero zero false true = (λ e. absurd (omega arith), λ h. absurd (not_both refl h.2))
number_zero zero false false = (λ e. (refl, refl, refl), λ h. refl)
number_zero (suc k) a b = (λ e. absurd (omega arith), λ h. absurd (let e = h.0 in omega arith))

number_six : (k : ℕ) (a b : Bool) → k ≢ 6 → (number k a b ≡ 6) ↔ ((k ≡ 0) × (a ≡ true))
unfolding number
number_six zero true b other = (λ e. (refl, refl), λ h. refl)
number_six zero false true other = (λ e. absurd (omega arith), λ h. absurd (not_both h.1 refl))
number_six zero false false other = (λ e. absurd (omega arith), λ h. absurd (not_both h.1 refl))
number_six (suc k) a b other = (λ e. absurd (other e), λ h. absurd (let e = h.0 in omega arith))

number_same : (k : ℕ) (a b : Bool) → number k false b ≢ 0 → number k false b ≢ 9 → number k a b ≡ number k false b
unfolding number
number_same zero a true some other = absurd (other refl)
number_same zero a false some other = absurd (some refl)
number_same (suc k) a b some other = refl

number_nine : (k : ℕ) (a b : Bool) → number k false b ≡ 9 → (number k a b ≡ 6) ⊎ (number k a b ≡ 9)
unfolding number
number_nine zero true b e = inl refl
number_nine zero false b e = inr e
number_nine (suc k) a b e = inr e

-- three lists of causes in common
module _ (l m o : List ℕ) where
  none_of_three : (first (l ++ (m ++ o)) ≡ 0) ↔ ((first l ≡ 0) × (first m ≡ 0) × (first o ≡ 0))
  none_of_three = (
    λ e.
        let later = first_append_right l (m ++ o) e in
        (first_append_left l (m ++ o) e, first_append_left m o later, first_append_right m o later),
    λ h. first_append_none l (m ++ o) h.0 ∙ (first_append_none m o h.1 ∙ h.2),
  )

  apart : (rest : List ℕ) → l ++ (m ++ (o ++ rest)) ≡ (l ++ (m ++ o)) ++ rest
  apart rest = ap (◌++◌ l) (sym (append_assoc m o rest)) ∙ sym (append_assoc l (m ++ o) rest)

  module _ (a b : Bool) where
    -- with 6 and 9, and with 9 alone
    abbrev pub six_nine : ℕ
    six_nine = first (l ++ (m ++ (o ++ cause 6 a ∷ cause 9 b ∷ [])))

    abbrev pub nine_alone : ℕ
    nine_alone = first (l ++ (m ++ (o ++ cause 9 b ∷ [])))

    with_six : six_nine ≡ number (first (l ++ (m ++ o))) a b
    with_six = ap first (apart _) ∙ common (l ++ (m ++ o)) _ a b (six_nine_law a b)

    without_six : nine_alone ≡ number (first (l ++ (m ++ o))) false b
    without_six = ap first (apart _) ∙ common (l ++ (m ++ o)) _ false b (nine b)

    pub zero_exactly :
        (six_nine ≡ 0) ↔ ((first l ≡ 0) × (first m ≡ 0) × (first o ≡ 0) × (a ≡ false) × (b ≡ false))
    zero_exactly = (
      λ e.
          let (none, x, y) = (number_zero _ a b).0 (sym with_six ∙ e) in
          let (i, j, k) = none_of_three.0 none in
          (i, j, k, x, y),
      λ h. with_six ∙ (number_zero _ a b).1 (none_of_three.1 (h.0, h.1, h.2), h.3, h.4),
    )

    pub six_exactly :
        first (l ++ (m ++ o)) ≢ 6 →
        (six_nine ≡ 6) ↔ ((first l ≡ 0) × (first m ≡ 0) × (first o ≡ 0) × (a ≡ true))
    six_exactly other = (
      λ e.
          let (none, x) = (number_six _ a b other).0 (sym with_six ∙ e) in
          let (i, j, k) = none_of_three.0 none in
          (i, j, k, x),
      λ h. with_six ∙ (number_six _ a b other).1 (none_of_three.1 (h.0, h.1, h.2), h.3),
    )

    pub same_number : nine_alone ≢ 0 → nine_alone ≢ 9 → six_nine ≡ nine_alone
    same_number some other =
        with_six ∙
        (number_same _ a b (λ e. some (without_six ∙ e)) (λ e. other (without_six ∙ e)) ∙ sym without_six)

    pub six_or_nine : nine_alone ≡ 9 → (six_nine ≡ 6) ⊎ (six_nine ≡ 9)
    six_or_nine e = rw with_six (number_nine _ a b (sym without_six ∙ e))

    -- where there is no number without 6, and 6 does not hold, there is none with it
    pub none_of_both : nine_alone ≡ 0 → a ≡ false → six_nine ≡ 0
    none_of_both e x =
        let (none, _, y) = (number_zero _ false b).0 (sym without_six ∙ e) in
        with_six ∙ (number_zero _ a b).1 (none, x, y)
