-- A load, a sum of shares each rounded down, is not above the exact sum, and less than one unit for each pair below it;
-- and how large shares, loads and pairs can be. First over lists, then over plans.
-- Assumes nothing.
use Prim.Native.Nat.{ℕ, suc, ◌+◌, ◌*◌, ◌/◌, ◌^◌, ◌≤◌, ◌<◌}
use mathlib.Core.Path.{◌≡◌, refl, sym, ap, ◌∙◌}
use mathlib.Core.Bool.{Bool, true, false, not, cond, and-eq-true_iff}
use mathlib.Core.List.{List, [], ◌∷◌, map, flat_map, Memᴰ}
use native.Mathlib.Omega.{arith}
use native.Mathlib.Nat.{mul_comm, mul_assoc, mul_left_comm, mul-add, add-mul, suc-mul, one-mul, zero-mul, mul-pos}
use native.Mathlib.Nat.{mul-le-mul, mul-le-mul_left, mul-lt-mul_of_pos_left, lt_of_mul-lt-mul_right}
use native.Mathlib.Nat.{div-mul-le_self, lt-div-mul-add, div-le_of_le-mul, mul-div_cancel}
use borrow.Author.Tests.{ltb-true}
use lib.Dec.{ltb, eqb}
use lib.ListN.{length, length-append, length-map}
use Rattle.temporal.specs.Lists.{below, sum, product, select}
use Rattle.temporal.specs.Plan.{Plan}
use Rattle.temporal.specs.Shortest.{shortest_walks_to, through}
use Rattle.temporal.specs.Walk.{is_interior}
use Rattle.temporal.specs.Load.{Ends, ends_below, count_of, through_of, is_pair_of, pairs_below, pairs_of, partial_pairs, share, partial_load}
use Rattle.temporal.specs.Load.{common_count, exact_sum, WithinExactSum}
use Rattle.lists.proofs.ListLaws.{length_zero, length_below, mem_select}

module _ {A : Type 0} where
  -- a selection is no longer than the list
  pub length_select_less : (t : A → Bool) (l : List A) → length (select t l) ≤ length l
  unfolding select
  length_select_less t [] = omega arith
  length_select_less t (x ∷ l) = step (t x) (length_select_less t l)
    where
      step : (c : Bool) → length (select t l) ≤ length l
          → length (cond c (x ∷ select t l) (select t l)) ≤ suc (length l)
      step true h = omega arith
      step false h = omega arith

  -- a sum of numbers that are each at most b is at most b for each member
  pub sum_at_most : (f : A → ℕ) (b : ℕ) → ((x : A) → f x ≤ b) → (l : List A) → sum (map f l) ≤ length l * b
  unfolding sum
  sum_at_most f b h [] = omega arith
  sum_at_most f b h (x ∷ l) = omega (arith, h x, sum_at_most f b h l, suc-mul (length l) b)

  -- lists of k members each, joined, have k members for each list
  pub length_flat_map_law : {B : Type 0} (f : B → List A) (k : ℕ) → ((x : B) → length (f x) ≡ k) → (l : List B)
      → length (flat_map f l) ≡ length l * k
  unfolding flat_map
  length_flat_map_law f k h [] = omega arith
  length_flat_map_law f k h (x ∷ l) =
      length-append (f x) (flat_map f l) ∙ omega (arith, h x, length_flat_map_law f k h l, suc-mul (length l) k)

  -- a product of numbers above 0 is above 0
  pub product_positive : (c : A → ℕ) (l : List A) → ((x : A) → Memᴰ x l → 0 < c x) → 0 < product (map c l)
  unfolding product
  product_positive c [] h = omega arith
  product_positive c (x ∷ l) h =
      mul-pos (h x (Memᴰ.head refl)) (product_positive c l (λ y m. h y (Memᴰ.tail m)))

  -- a product is a multiple of each of its numbers
  pub product_member : (c : A → ℕ) {x : A} {l : List A} → Memᴰ x l → (k : ℕ) × (product (map c l) ≡ k * c x)
  unfolding product
  product_member c (Memᴰ.head {xs = l} e) = (product (map c l), rw e (mul_comm _ _))
  product_member c {x = x} (Memᴰ.tail {x = y} m) =
      let h = product_member c m in (c y * h.0, rw h.1 (sym (mul_assoc (c y) h.0 (c x))))

  module _ (k d : ℕ) (s e : A → ℕ) where
    -- where each s × d is at most k × e, so are their sums
    sums_at_most : (l : List A) → ((x : A) → Memᴰ x l → s x * d ≤ k * e x)
        → sum (map s l) * d ≤ k * sum (map e l)
    unfolding sum
    sums_at_most [] h = omega arith
    sums_at_most (x ∷ l) h =
        rw (add-mul (s x) (sum (map s l)) d, mul-add k (e x) (sum (map e l)))
        (omega (arith, h x (Memᴰ.head refl), sums_at_most l (λ y m. h y (Memᴰ.tail m))))

    -- where each k × e is below (s + 1) × d, so are their sums, by at least one for each member
    sums_below : (l : List A) → ((x : A) → Memᴰ x l → k * e x < (s x + 1) * d)
        → k * sum (map e l) + length l ≤ (sum (map s l) + length l) * d
    unfolding sum
    sums_below [] h = omega arith
    sums_below (x ∷ l) h =
        let split : s x + sum (map s l) + suc (length l) ≡ (s x + 1) + (sum (map s l) + length l) = omega arith in
        rw (split, add-mul (s x + 1) (sum (map s l) + length l) d, mul-add k (e x) (sum (map e l)))
        (omega (arith, h x (Memᴰ.head refl), sums_below l (λ y m. h y (Memᴰ.tail m))))

-- the whole part of k × t ÷ c, and k × t ÷ c itself over a multiple d of c
module _ (k t c d m : ℕ) (some : 0 < c) (multiple : d ≡ m * c) where
  -- d ÷ c is how many times d has c
  quotient : d / c ≡ m
  quotient = rw multiple (mul-div_cancel m some)

  -- the whole part is not more
  rounded_at_most : (k * t / c) * d ≤ k * (t * (d / c))
  rounded_at_most =
      rw (quotient, multiple)
      (rw (mul_left_comm (k * t / c) m c, ← mul_assoc k t m, mul_comm (k * t) m)
      (mul-le-mul_left m (div-mul-le_self (k * t) c)))

  -- the whole part and 1 is more
  rounded_below : 0 < d → k * (t * (d / c)) < (k * t / c + 1) * d
  rounded_below positive =
      let above : 0 < m = lt_of_mul-lt-mul_right c (rw (zero-mul c, ← multiple) positive) in
      rw (quotient, multiple)
      (rw (mul_left_comm (k * t / c + 1) m c, ← mul_assoc k t m, mul_comm (k * t) m, add-mul (k * t / c) 1 c, one-mul c)
      (mul-lt-mul_of_pos_left (lt-div-mul-add some) above))

-- the sum of the whole parts of k × t ÷ c over a list, and the exact sum over the product of all c
module _ {A : Type 0} (k : ℕ) (t c : A → ℕ) (l : List A) (some : (x : A) → Memᴰ x l → 0 < c x) where
  -- the sum of whole parts is not more
  pub rounded_sum_at_most :
      sum (map (λ x. k * t x / c x) l) * product (map c l) ≤ k * sum (map (λ x. t x * (product (map c l) / c x)) l)
  rounded_sum_at_most =
      let d = product (map c l) in
      sums_at_most k d (λ x. k * t x / c x) (λ x. t x * (d / c x)) l (λ x m.
      let h = product_member c m in rounded_at_most k (t x) (c x) d h.0 (some x m) h.1)

  -- the sum of whole parts, with 1 more for each member, is more
  pub rounded_sum_below : 0 < length l
      → k * sum (map (λ x. t x * (product (map c l) / c x)) l)
      < (sum (map (λ x. k * t x / c x) l) + length l) * product (map c l)
  rounded_sum_below members =
      let d = product (map c l) in
      omega (
        arith,
        sums_below k d (λ x. k * t x / c x) (λ x. t x * (d / c x)) l (λ x m.
            let h = product_member c m in
            rounded_below k (t x) (c x) d h.0 (some x m) h.1 (product_positive c l some)),
      )

-- the shortest walks of a pair that have v inside are no more than all
pub through_less : (p : Plan) (v : ℕ) (e : Ends) → through_of p v e ≤ count_of p e
unfolding through
through_less p v e =
    length_select_less (is_interior p e.source e.destination v) (shortest_walks_to p e.source e.destination)

-- a share is at most one whole
pub share_at_most : (p : Plan) (v : ℕ) (e : Ends) → share p v e ≤ 2 ^ 32
unfolding share
share_at_most p v e =
    div-le_of_le-mul (count_of p e) (omega (arith, through_less p v e))

-- the ordered pairs of n stations whose source is below k are k × n
pub length_ends_below_law : (k n : ℕ) → length (ends_below k n) ≡ k * n
unfolding ends_below
length_ends_below_law k n =
    length_flat_map_law _ n (λ s. length-map (below n) _ ∙ length_below n) (below k) ∙ ap (λ j. j * n) (length_below k)

module _ (p : Plan) (k v : ℕ) where
  -- a pair of v has walks through v
  pub pair_through : (e : Ends) → Memᴰ e (pairs_below p k v) → 0 < through_of p v e
  unfolding pairs_below
  pair_through e m =
      ltb-true 0 (through_of p v e)
      ((and-eq-true_iff (not (eqb e.source e.destination)) (ltb 0 (through_of p v e))).0
      ((mem_select (is_pair_of p v) (ends_below k p.stations)).0 m).1).1

  -- a pair of v has walks
  pub pair_count : (e : Ends) → Memᴰ e (pairs_below p k v) → 0 < count_of p e
  pair_count e m = omega (arith, pair_through e m, through_less p v e)

  -- a station has at most as many pairs as there are ordered pairs
  pub pairs_at_most : partial_pairs p k v ≤ k * p.stations
  unfolding partial_pairs pairs_below
  pairs_at_most =
      omega (arith, length_select_less (is_pair_of p v) (ends_below k p.stations), length_ends_below_law k p.stations)

  -- a load is at most one whole for each pair
  pub load_at_most : partial_load p k v ≤ partial_pairs p k v * 2 ^ 32
  unfolding partial_load partial_pairs
  load_at_most = sum_at_most (share p v) (2 ^ 32) (share_at_most p v) (pairs_below p k v)

  -- with 256 stations or fewer a load is below 2^49
  pub load_below : k ≤ 256 → p.stations ≤ 256 → partial_load p k v < 2 ^ 49
  load_below some h = omega (arith, load_at_most, pairs_at_most, mul-le-mul some h)

-- The load of a station against the exact sum of shares, for every plan: load × D is at most 2^32 × S, and 2^32 × S
-- is below (load + pairs) × D where there are pairs; load and S are 0 where there are none.
pub within_exact_sum : (p : Plan) (v : ℕ) → WithinExactSum p v
unfolding partial_load exact_sum common_count partial_pairs share sum
within_exact_sum p v =
    record {
      at_most = rounded_sum_at_most (2 ^ 32) (through_of p v) (count_of p) (pairs_of p v) (pair_count p p.stations v);
      less = rounded_sum_below (2 ^ 32) (through_of p v) (count_of p) (pairs_of p v) (pair_count p p.stations v);
      none = λ z. let e = (length_zero (pairs_of p v)).0 z in (rw e, rw e);
    }
