-- The number of a refusal of the account from the number that loads answers: 6, a wrong station, comes before 9 and behind all others.
-- Assumes nothing.
use Prim.Native.Nat.{ℕ, zero, suc, ◌≤◌}
use native.Mathlib.Omega.{arith}
use mathlib.Core.Path.{◌≡◌, refl, sym, ap, ◌∙◌}
use mathlib.Core.Bool.{Bool, true, false, cond, ◌||◌}
use mathlib.Core.List.{List, [], ◌∷◌, ◌++◌, flat_map}
use mathlib.Core.Logic.{◌≢◌}
use lib.Dec.{eqb}
use borrow.Author.Tests.{eqb-false, ne_eqb}
use Rattle.temporal.specs.Lists.{below}
use Rattle.temporal.specs.Plan.{Terms}
use Rattle.temporal.specs.Bytes.{contact_at, records}
use Rattle.temporal.specs.Cause.{
  cause,
  first,
  outside,
  wrong_length,
  wrong_slot,
  wrong_ends,
  wrong_order,
  record_causes,
  plan_causes,
  wrong_turnaround,
  wrong_keeping,
  terms_causes,
}
use Rattle.temporal.proofs.CauseLaws.{first_append_none, first_append_some, or_false_left}
use Rattle.account.specs.Whole.{with_station}

-- ---- the plan's causes are at most 5, those of the terms at least 12

cause_most : (j most : ℕ) (b : Bool) (l : List ℕ) → j ≤ most → first l ≤ most → first (cause j b ∷ l) ≤ most
unfolding cause first
cause_most j most false l h rest = rest
cause_most zero most true l h rest = rest
cause_most (suc j) most true l h rest = h

append_most : (most : ℕ) (l m : List ℕ) → first l ≤ most → first m ≤ most → first (l ++ m) ≤ most
unfolding first
append_most most [] m h rest = rest
append_most most (zero ∷ l) m h rest = append_most most l m h rest
append_most most (suc k ∷ l) m h rest = h

nothing : (most : ℕ) → first [] ≤ most
unfolding first
nothing most = omega arith

joined_most : (most : ℕ) (f : ℕ → List ℕ) (l : List ℕ) → ((i : ℕ) → first (f i) ≤ most) → first (flat_map f l) ≤ most
unfolding flat_map
joined_most most f [] h = nothing most
joined_most most f (i ∷ l) h = append_most most (f i) (flat_map f l) (h i) (joined_most most f l h)

record_causes_small : (bs : List ℕ) (n t i : ℕ) → first (record_causes bs n t i) ≤ 5
unfolding record_causes
record_causes_small bs n t i = least (wrong_slot t (contact_at bs i)) (wrong_ends n (contact_at bs i)) (wrong_order bs i)
  where
    least : (a b c : Bool) → first (cause 3 a ∷ cause 4 b ∷ cause 5 c ∷ []) ≤ 5
    least a b c =
        cause_most 3 5 a (cause 4 b ∷ cause 5 c ∷ []) (omega arith)
        (cause_most 4 5 b (cause 5 c ∷ []) (omega arith) (cause_most 5 5 c [] (omega arith) (nothing 5)))

pub plan_causes_small : (bs : List ℕ) (n t : ℕ) → first (plan_causes bs n t) ≤ 5
unfolding plan_causes
plan_causes_small bs n t =
    cause_most 1 5 (outside n t) (cause 2 (wrong_length bs) ∷ flat_map (record_causes bs n t) (below (records bs))) (omega arith)
    (cause_most 2 5 (wrong_length bs) (flat_map (record_causes bs n t) (below (records bs))) (omega arith)
    (joined_most 5 (record_causes bs n t) (below (records bs)) (record_causes_small bs n t)))

pub terms_causes_other : (terms : Terms) → first (terms_causes terms) ≢ 9
unfolding terms_causes cause first
terms_causes_other terms = decide (wrong_turnaround terms) (wrong_keeping terms)
  where
    decide : (a b : Bool) → first (cause 12 a ∷ cause 14 b ∷ []) ≢ 9
    decide true b e = omega arith
    decide false true e = omega arith
    decide false false e = omega arith

-- ---- the number

module _ (k : ℕ) (b : Bool) where
  pub with_other : k ≢ 0 → k ≢ 9 → with_station k b ≡ k
  unfolding with_station
  with_other zero-not nine-not = decide b
    where
      decide : (x : Bool) → with_station k x ≡ k
      decide true = rw (ne_eqb k 0 zero-not, ne_eqb k 9 nine-not)
      decide false = refl

-- no number: loads has none, and the station is right
pub with_zero : (k : ℕ) (b : Bool) → with_station k b ≡ 0 → (k ≡ 0) × (b ≡ false)
unfolding with_station
with_zero k false e = (e, refl)
with_zero k true e = absurd (decide (eqb k 0 || eqb k 9) refl e)
  where
    decide : (x : Bool) → (eqb k 0 || eqb k 9) ≡ x → cond (eqb k 0 || eqb k 9) 6 k ≡ 0 → ⊥
    decide true p q = let six : ◌≡◌ {A = ℕ} 6 0 = rw p at q in omega arith
    decide false p q = let none : k ≡ 0 = rw p at q in eqb-false k 0 (or_false_left (eqb k 0) (eqb k 9) p) none

-- a cause 6 before the last cause, 9
pub with_causes :
    (p q : List ℕ) (b many : Bool) → first p ≢ 9 → first q ≢ 9 →
    with_station (first (p ++ (q ++ cause 9 many ∷ []))) b ≡ first (p ++ (q ++ cause 6 b ∷ cause 9 many ∷ []))
unfolding with_station cause first
with_causes p q b many p-other q-other = decide (first p) (first q) refl refl
  where
    last : (x y : Bool) → with_station (first (cause 9 y ∷ [])) x ≡ first (cause 6 x ∷ cause 9 y ∷ [])
    last true true = refl
    last true false = refl
    last false true = refl
    last false false = refl

    decide :
        (k j : ℕ) → first p ≡ k → first q ≡ j →
        with_station (first (p ++ (q ++ cause 9 many ∷ []))) b ≡ first (p ++ (q ++ cause 6 b ∷ cause 9 many ∷ []))
    decide (suc k) j e f =
        let front = first_append_some p (q ++ cause 9 many ∷ []) (omega arith) in
        let front' = first_append_some p (q ++ cause 6 b ∷ cause 9 many ∷ []) (omega arith) in
        ap (λ x. with_station x b) front ∙ with_other (first p) b (λ z. omega arith) p-other ∙ sym front'
    decide zero (suc j) e f =
        let front = first_append_none p (q ++ cause 9 many ∷ []) e ∙ first_append_some q (cause 9 many ∷ []) (omega arith) in
        let front' =
        first_append_none p (q ++ cause 6 b ∷ cause 9 many ∷ []) e ∙
        first_append_some q (cause 6 b ∷ cause 9 many ∷ []) (omega arith) in
        ap (λ x. with_station x b) front ∙ with_other (first q) b (λ z. omega arith) q-other ∙ sym front'
    decide zero zero e f =
        let front = first_append_none p (q ++ cause 9 many ∷ []) e ∙ first_append_none q (cause 9 many ∷ []) f in
        let front' =
        first_append_none p (q ++ cause 6 b ∷ cause 9 many ∷ []) e ∙ first_append_none q (cause 6 b ∷ cause 9 many ∷ []) f in
        ap (λ x. with_station x b) front ∙ last b many ∙ sym front'
