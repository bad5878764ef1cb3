-- More laws of sums over lists: of joined lists, of one number more, and of numbers that are less.
-- Assumes nothing.
use Prim.Native.Nat.{ℕ, zero, suc, ◌+◌, ◌≤◌}
use mathlib.Core.Path.{◌≡◌, refl, ap, ◌∙◌}
use mathlib.Core.Bool.{Bool, true, false, cond}
use mathlib.Core.List.{List, [], ◌∷◌, map, flat_map, map-append}
use native.Mathlib.Omega.{arith}
use Rattle.temporal.specs.Lists.{from, below, sum, select}
use Rattle.lists.proofs.ListLaws.{sum_append}

-- a sum over joined lists is the sum of their sums
pub sum_flat_map_law : {A B : Type 0} (h : B → ℕ) (f : A → List B) (l : List A)
    → sum (map h (flat_map f l)) ≡ sum (map (λ x. sum (map h (f x))) l)
unfolding flat_map sum
sum_flat_map_law h f [] = refl
sum_flat_map_law h f (x ∷ l) =
    rw map-append (sum_append (map h (f x)) (map h (flat_map f l)) ∙ ap (◌+◌ (sum (map h (f x)))) (sum_flat_map_law h f l))

-- the sum over a selection is the sum over the whole list, with 0 for what is not selected
pub sum_select : {A : Type 0} (f : A → ℕ) (t : A → Bool) (l : List A)
    → sum (map f (select t l)) ≡ sum (map (λ x. cond (t x) (f x) 0) l)
unfolding select sum
sum_select f t [] = refl
sum_select f t (x ∷ l) = rw (← sum_select f t l) (step (t x))
  where
    step : (c : Bool) → sum (map f (cond c (x ∷ select t l) (select t l))) ≡ cond c (f x) 0 + sum (map f (select t l))
    step true = refl
    step false = omega arith

-- a sum of numbers that are each at most another is at most the sum of the others
pub sum_less : {A : Type 0} (f g : A → ℕ) (l : List A) → ((x : A) → f x ≤ g x) → sum (map f l) ≤ sum (map g l)
unfolding sum
sum_less f g [] h = omega arith
sum_less f g (x ∷ l) h = omega (arith, h x, sum_less f g l h)

-- the sum over one number more, from i on
sum_from_suc : (f : ℕ → ℕ) (i k : ℕ) → sum (map f (from i (suc k))) ≡ sum (map f (from i k)) + f (i + k)
unfolding from sum
sum_from_suc f i zero = let same : i + 0 ≡ i = omega arith in rw same (omega arith)
sum_from_suc f i (suc k) =
    let same : i + suc k ≡ suc i + k = omega arith in
    rw same (omega (arith, sum_from_suc f (suc i) k))

-- the sum over the numbers below k + 1 is the sum over those below k and what k adds
pub sum_below_suc : (f : ℕ → ℕ) (k : ℕ) → sum (map f (below (suc k))) ≡ sum (map f (below k)) + f k
unfolding below
sum_below_suc f k = let same : 0 + k ≡ k = omega arith in sum_from_suc f 0 k ∙ rw same
