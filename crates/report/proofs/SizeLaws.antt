-- The largest of the values over a range, from the left. Assumes nothing.
use Prim.Native.Nat.{ℕ, zero, suc, ◌+◌, max}
use native.Mathlib.Omega.{arith}
use mathlib.Core.Path.{◌≡◌, ◌∙◌}
use mathlib.Core.List.{map}
use Rattle.std.proofs.Common.{fold}
use Rattle.std.specs.List.{range_with_len}
use Rattle.temporal.specs.Lists.{from, below}
use Rattle.report.specs.Sizes.{largest}

max_assoc : (a b c : ℕ) → max (max a b) c ≡ max a (max b c)
max_assoc a b c = omega arith

-- from a number that was seen on, over k places from i on
fold_largest : (f : ℕ → ℕ) (top i k : ℕ) → fold (λ a x. max a (f x)) top (range_with_len i k) ≡ max top (largest (map f (from i k)))
unfolding from largest
fold_largest f top i zero = omega arith
fold_largest f top i (suc k) =
    let next : i + 1 ≡ suc i = omega arith in
    fold_largest f (max top (f i)) (i + 1) k ∙ rw next (max_assoc top (f i) (largest (map f (from (suc i) k))))

pub fold_below : (f : ℕ → ℕ) (m : ℕ) → fold (λ a x. max a (f x)) 0 (range_with_len 0 m) ≡ largest (map f (below m))
unfolding below
fold_below f m = fold_largest f 0 0 m ∙ omega arith
