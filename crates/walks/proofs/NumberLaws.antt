-- The first cause of a list has a property that 0 and all its causes have; the causes of first way and next way other than 10 are
-- at most 14, and not 10. Assumes nothing.
use Prim.Native.Nat.{ℕ, zero, suc, ◌≤◌}
use native.Mathlib.Omega.{arith}
use native.Mathlib.Decide.{dec_lt}
use mathlib.Core.Path.{◌≡◌, refl}
use mathlib.Core.Bool.{Bool, true, false, cond}
use borrow.Author.Tests.{le-ltb, ltb-false}
use lib.Dec.{eqb, ltb}
use mathlib.Core.List.{List, [], ◌∷◌, ◌++◌, flat_map}
use mathlib.Core.Logic.{◌≢◌, by_cases}
use Rattle.temporal.specs.Lists.{below}
use Rattle.temporal.specs.Plan.{Terms, turning}
use Rattle.temporal.specs.Bytes.{records, plan_of}
use Rattle.temporal.specs.Cause.{cause, first, record_causes, plan_causes, wrong_turnaround, wrong_keeping, terms_causes, ends_causes, pair_causes, is_too_many}
use Rattle.temporal.specs.FirstNext.{Question, way_causes, overflow}
use Rattle.temporal.proofs.CauseLaws.{first_append_none, first_append_some, first_true, first_false, or_false_right}

module _ (Has : ℕ → Type 0) (zero_has : Has 0) where
  pub none_has : Has (first [])
  unfolding first
  none_has = zero_has

  pub cause_has : (k : ℕ) (b : Bool) (l : List ℕ) → Has k → Has (first l) → Has (first (cause k b ∷ l))
  unfolding first cause
  cause_has zero true l h rest = rest
  cause_has (suc k) true l h rest = h
  cause_has k false l h rest = rest

  pub one_has : (k : ℕ) → Has k → Has (first (k ∷ []))
  unfolding first
  one_has zero h = zero_has
  one_has (suc k) h = h

  pub append_has : (l m : List ℕ) → Has (first l) → Has (first m) → Has (first (l ++ m))
  append_has l m a b =
      by_cases (dec_lt 0 (first l))
      (λ some. rw (first_append_some l m some) a)
      (λ none. rw (first_append_none l m (omega arith)) b)

  pub each_has : (f : ℕ → List ℕ) (l : List ℕ) → ((i : ℕ) → Has (first (f i))) → Has (first (flat_map f l))
  unfolding flat_map
  each_has f [] h = none_has
  each_has f (i ∷ l) h = append_has (f i) (flat_map f l) (h i) (each_has f l h)

  -- of a plan's causes
  module _ (one : Has 1) (two : Has 2) (three : Has 3) (four : Has 4) (five : Has 5) (bs : List ℕ) (n t : ℕ) where
    record_has : (i : ℕ) → Has (first (record_causes bs n t i))
    unfolding record_causes
    record_has i = cause_has 3 _ _ three (cause_has 4 _ _ four (cause_has 5 _ [] five none_has))

    pub plan_has : Has (first (plan_causes bs n t))
    unfolding plan_causes
    plan_has = cause_has 1 _ _ one (cause_has 2 _ _ two (each_has (record_causes bs n t) (below (records bs)) record_has))

  -- of those of a pair's stations and of what is lent
  pub ends_has : Has 6 → Has 7 → Has 8 → (n s z : ℕ) (short : Bool) → Has (first (ends_causes n s z short))
  unfolding ends_causes
  ends_has six seven eight n s z short = cause_has 6 _ _ six (cause_has 7 _ _ seven (cause_has 8 _ [] eight none_has))

no_cause_first : first [] ≡ 0
unfolding first
no_cause_first = refl

-- a turnaround that is allowed is not longer than a reading is kept
small_turnaround : (g : ℕ) → wrong_turnaround (turning g) ≡ false → wrong_keeping (turning g) ≡ false
unfolding wrong_turnaround wrong_keeping
small_turnaround g q = let few = ltb-false 16 g (or_false_right (eqb g 0) (ltb 16 g) q) in rw (le-ltb 255 g (omega arith))

-- 14 does not hold of units that keep a reading until the plan ends, unless 12 does
pub turning_other : (g : ℕ) → first (terms_causes (turning g)) ≢ 14
unfolding terms_causes
turning_other g = decide (wrong_turnaround (turning g)) refl
  where
    decide : (b : Bool) → wrong_turnaround (turning g) ≡ b
        → first (cause 12 (wrong_turnaround (turning g)) ∷ cause 14 (wrong_keeping (turning g)) ∷ []) ≢ 14
    decide true q e = let twelve = first_true 11 (wrong_turnaround (turning g)) (cause 14 (wrong_keeping (turning g)) ∷ []) q in omega arith
    decide false q e =
        let passed = first_false 12 (wrong_turnaround (turning g)) (cause 14 (wrong_keeping (turning g)) ∷ []) q in
        let none = first_false 14 (wrong_keeping (turning g)) [] (small_turnaround g q) in
        let nothing = no_cause_first in
        omega arith

-- a number that a call of first way or next way may have beside 10, or 0
pub record OtherThanTen (k : ℕ) : Type 0 where
  pub most : k ≤ 14
  pub not_ten : k ≢ 10

other : (k : ℕ) → k ≤ 14 → k ≢ 10 → OtherThanTen k
other k most not_ten = record { most = most; not_ten = not_ten }

zero_other : OtherThanTen 0
zero_other = other 0 (omega arith) (omega arith)

-- 1 to 5
plan_other : (bs : List ℕ) (n t : ℕ) → OtherThanTen (first (plan_causes bs n t))
plan_other =
    plan_has OtherThanTen zero_other (other 1 (omega arith) (omega arith)) (other 2 (omega arith) (omega arith))
    (other 3 (omega arith) (omega arith)) (other 4 (omega arith) (omega arith)) (other 5 (omega arith) (omega arith))

-- 12 and 14, then 6 to 8
pair_other : (terms : Terms) (n s z : ℕ) (lacking : Bool) → OtherThanTen (first (pair_causes terms n s z lacking))
unfolding pair_causes terms_causes
pair_other terms n s z lacking =
    cause_has OtherThanTen zero_other 12 _ _ (other 12 (omega arith) (omega arith))
    (cause_has OtherThanTen zero_other 14 _ _ (other 14 (omega arith) (omega arith))
    (ends_has OtherThanTen zero_other (other 6 (omega arith) (omega arith)) (other 7 (omega arith) (omega arith))
    (other 8 (omega arith) (omega arith)) n s z lacking))

pub way_other : (q : Question) (wayLength work_length : ℕ) → OtherThanTen (first (way_causes q wayLength work_length))
unfolding way_causes
way_other q wayLength work_length =
    append_has OtherThanTen zero_other _ _ (plan_other q.bytes q.stations q.slots) (pair_other _ _ _ _ _)

-- 9
pub overflow_other : (q : Question) → OtherThanTen (overflow q)
unfolding overflow cause
overflow_other q = either (is_too_many (plan_of q.bytes q.stations q.slots q.terms) q.source)
  where
    either : (b : Bool) → OtherThanTen (cond b 9 0)
    either true = other 9 (omega arith) (omega arith)
    either false = zero_other

-- both
pub causes_other :
    (q : Question) (wayLength work_length : ℕ) → OtherThanTen (first (way_causes q wayLength work_length ++ overflow q ∷ []))
causes_other q wayLength work_length =
    append_has OtherThanTen zero_other _ _ (way_other q wayLength work_length)
    (one_has OtherThanTen zero_other (overflow q) (overflow_other q))
