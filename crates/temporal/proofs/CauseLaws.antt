-- Laws of the causes of refusal: the first cause of a list, and what follows where there is none. Assumes nothing.
use Prim.Native.Nat.{ℕ, zero, suc, ◌<◌}
use native.Mathlib.Omega.{arith}
use mathlib.Core.Path.{◌≡◌, refl, sym, ap, ◌∙◌}
use mathlib.Core.Bool.{Bool, true, false, cond, ◌&&◌, ◌||◌}
use mathlib.Core.List.{List, [], ◌∷◌, ◌++◌}
use Rattle.temporal.specs.Cause.{cause, first}

-- ---- the first cause

-- a cause that does not hold is passed over
pub first_false : (k : ℕ) (b : Bool) (l : List ℕ) → b ≡ false → first (cause k b ∷ l) ≡ first l
unfolding first cause
first_false k b l e = rw e

-- a cause that holds is the first
pub first_true : (k : ℕ) (b : Bool) (l : List ℕ) → b ≡ true → first (cause (suc k) b ∷ l) ≡ suc k
unfolding first cause
first_true k b l e = rw e

-- where the first part has no cause, the second part's first cause is the whole's
pub first_append_none : (l m : List ℕ) → first l ≡ 0 → first (l ++ m) ≡ first m
unfolding first
first_append_none [] m e = refl
first_append_none (zero ∷ l) m e = first_append_none l m e
first_append_none (suc k ∷ l) m e = absurd (omega arith)

-- where the first part has a cause, it is the whole's
pub first_append_some : (l m : List ℕ) → 0 < first l → first (l ++ m) ≡ first l
unfolding first
first_append_some [] m h = absurd (omega arith)
first_append_some (zero ∷ l) m h = first_append_some l m h
first_append_some (suc k ∷ l) m h = refl

-- where the whole has no cause, neither part has
pub first_append_left : (l m : List ℕ) → first (l ++ m) ≡ 0 → first l ≡ 0
unfolding first
first_append_left [] m e = refl
first_append_left (zero ∷ l) m e = first_append_left l m e
first_append_left (suc k ∷ l) m e = e

pub first_append_right : (l m : List ℕ) → first (l ++ m) ≡ 0 → first m ≡ 0
first_append_right l m e = sym (first_append_none l m (first_append_left l m e)) ∙ e

-- a list without a cause: its head does not hold, and its rest has none
pub first_head : (k : ℕ) (b : Bool) (l : List ℕ) → first (cause (suc k) b ∷ l) ≡ 0 → b ≡ false
unfolding first cause
first_head k true l e = absurd (omega arith)
first_head k false l e = refl

pub first_tail : (k : ℕ) (b : Bool) (l : List ℕ) → first (cause (suc k) b ∷ l) ≡ 0 → first l ≡ 0
unfolding first cause
first_tail k true l e = absurd (omega arith)
first_tail k false l e = e

-- ---- tests

-- an or that is false has two false parts
pub or_false_left : (a b : Bool) → (a || b) ≡ false → a ≡ false
or_false_left true b e = e
or_false_left false b e = refl

pub or_false_right : (a b : Bool) → (a || b) ≡ false → b ≡ false
or_false_right true b e = absurd (let z : ◌≡◌ {A = ℕ} 0 1 = ap (λ t. cond t 1 0) (sym e) in omega arith)
or_false_right false b e = e

pub and_false_right : (a b : Bool) → (a && b) ≡ false → a ≡ true → b ≡ false
and_false_right true b e h = e
and_false_right false b e h = absurd (let z : ◌≡◌ {A = ℕ} 0 1 = ap (λ t. cond t 1 0) h in omega arith)
