-- Pairs and loads over the sources below k, source by source: a further source takes nothing away, and adds at most n - 1 pairs
-- and as many whole shares. First over sums, then over plans.
-- Assumes nothing.
use Prim.Native.Nat.{ℕ, zero, suc, ◌+◌, ◌-◌, ◌*◌, ◌^◌, ◌≤◌, ◌<◌}
use mathlib.Core.Path.{◌≡◌, refl, sym, ap, ◌∙◌}
use mathlib.Core.Bool.{Bool, true, false, cond}
use mathlib.Core.List.{map, map-map}
use mathlib.Core.Logic.{by_cases}
use native.Mathlib.Omega.{arith}
use native.Mathlib.Decide.{ℕ_discrete}
use native.Mathlib.Nat.{suc-mul, add-mul, mul_assoc}
use borrow.Author.Tests.{eq-eqb, ne_eqb}
use lib.Dec.{eqb}
use Rattle.temporal.specs.Lists.{below, sum}
use Rattle.temporal.specs.Plan.{Plan}
use Rattle.temporal.specs.Load.{Ends, ends_below, is_pair_of, pairs_below, partial_pairs, share, partial_load}
use Rattle.temporal.specs.Load.{rest_of_pairs, rest_of_load}
use Rattle.lists.proofs.ListLaws.{sum_ext, sum_map_add, sum_point, length_select, length_below}
use Rattle.counting.proofs.ExactSum.{sum_at_most, share_at_most}
use Rattle.counting.proofs.SumLaws.{sum_flat_map_law, sum_select, sum_below_suc}

-- an ordered pair
abbrev pub ends : ℕ → ℕ → Ends
ends s z = record { source = s; destination = z }

-- the sum of h over a source and all n destinations
unfoldable pub over_destinations : (Ends → ℕ) → ℕ → ℕ → ℕ
over_destinations h n s = sum (map (λ z. h (ends s z)) (below n))

-- a sum over the ordered pairs whose source is below k is a sum over sources of sums over destinations
pub sum_ends : (h : Ends → ℕ) (k n : ℕ) → sum (map h (ends_below k n)) ≡ sum (map (over_destinations h n) (below k))
unfolding ends_below over_destinations
sum_ends h k n =
    sum_flat_map_law h (λ s. map (ends s) (below n)) (below k)
    ∙ sum_ext (below k) (λ s m. ap sum (map-map h (ends s) (below n)))

module _ (h : Ends → ℕ) (n b : ℕ) (most : (e : Ends) → h e ≤ b) (self : (s : ℕ) → h (ends s s) ≡ 0) where
  -- one source adds at most b for each other station
  source_at_most : (s : ℕ) → s < n → over_destinations h n s ≤ (n - 1) * b
  unfolding over_destinations
  source_at_most s inside =
      let filled : sum (map (λ z. h (ends s z) + cond (eqb z s) b 0) (below n)) ≤ n * b =
      (let g = sum_at_most (λ z. h (ends s z) + cond (eqb z s) b 0) b bounded (below n) in rw length_below at g) in
      let split = sum_map_add (λ z. h (ends s z)) (λ z. cond (eqb z s) b 0) (below n) in
      let point = sum_point (λ z. b) n s inside in
      let one : n * b ≡ (n - 1) * b + b =
      (let e : n ≡ suc (n - 1) = omega arith in ap (λ m. m * b) e ∙ suc-mul (n - 1) b ∙ omega arith) in
      omega arith
    where
      bounded : (z : ℕ) → h (ends s z) + cond (eqb z s) b 0 ≤ b
      bounded z =
          by_cases (ℕ_discrete z s)
          (λ e. rw (e, eq-eqb s s refl) (omega (arith, self s)))
          (λ d. rw (ne_eqb z s d) (omega (arith, most (ends s z))))

  -- from k sources to d more
  more_sources : (k d : ℕ) → k + d ≤ n
      → (sum (map h (ends_below k n)) ≤ sum (map h (ends_below (k + d) n)))
      × (sum (map h (ends_below (k + d) n)) ≤ sum (map h (ends_below k n)) + d * ((n - 1) * b))
  more_sources k zero inside =
      let same : k + 0 ≡ k = omega arith in rw same (omega arith, omega arith)
  more_sources k (suc d) inside =
      let before = more_sources k d (omega arith) in
      let next : k + suc d ≡ suc (k + d) = omega arith in
      let added : sum (map h (ends_below (suc (k + d)) n)) ≡ sum (map h (ends_below (k + d) n)) + over_destinations h n (k + d) =
      sum_ends h (suc (k + d)) n ∙ sum_below_suc (over_destinations h n) (k + d)
      ∙ ap (λ x. x + over_destinations h n (k + d)) (sym (sum_ends h (k + d) n)) in
      let bound = source_at_most (k + d) (omega arith) in
      let more = suc-mul d ((n - 1) * b) in
      rw next (omega arith, omega arith)

  -- between k and j sources
  pub sources_between : (k j : ℕ) → k ≤ j → j ≤ n
      → (sum (map h (ends_below k n)) ≤ sum (map h (ends_below j n)))
      × (sum (map h (ends_below j n)) + (n - j) * ((n - 1) * b) ≤ sum (map h (ends_below k n)) + (n - k) * ((n - 1) * b))
  sources_between k j less inside =
      let whole : k + (j - k) ≡ j = omega arith in
      let steps : (sum (map h (ends_below k n)) ≤ sum (map h (ends_below j n)))
      × (sum (map h (ends_below j n)) ≤ sum (map h (ends_below k n)) + (j - k) * ((n - 1) * b)) =
      (let g = more_sources k (j - k) (omega arith) in rw whole at g) in
      let split : (n - k) * ((n - 1) * b) ≡ (j - k) * ((n - 1) * b) + (n - j) * ((n - 1) * b) =
      (let e : n - k ≡ (j - k) + (n - j) = omega arith in
      ap (λ m. m * ((n - 1) * b)) e ∙ add-mul (j - k) (n - j) ((n - 1) * b)) in
      (steps.0, omega arith)

module _ (p : Plan) (v : ℕ) where
  -- pairs and load as sums over ordered pairs
  pub pairs_summed : (k : ℕ) → partial_pairs p k v ≡ sum (map (λ e. cond (is_pair_of p v e) 1 0) (ends_below k p.stations))
  unfolding partial_pairs pairs_below
  pairs_summed k = length_select (is_pair_of p v) (ends_below k p.stations)

  pub load_summed : (k : ℕ) → partial_load p k v ≡ sum (map (λ e. cond (is_pair_of p v e) (share p v e) 0) (ends_below k p.stations))
  unfolding partial_load pairs_below
  load_summed k = sum_select (share p v) (is_pair_of p v) (ends_below k p.stations)

  -- a source and itself are no pair
  no_pair : (x s : ℕ) → cond (is_pair_of p v (ends s s)) x 0 ≡ 0
  no_pair x s = rw (eq-eqb s s refl)

  at_most : (c : Bool) (x b : ℕ) → x ≤ b → cond c x 0 ≤ b
  at_most true x b h = h
  at_most false x b h = omega arith

  module _ (k j : ℕ) (less : k ≤ j) (inside : j ≤ p.stations) where
    -- With more sources no pair is lost, and the span from the pairs to the bound on all of them lies within the earlier one.
    pub pairs_between :
        (partial_pairs p k v ≤ partial_pairs p j v) ×
        (partial_pairs p j v + rest_of_pairs p.stations j ≤ partial_pairs p k v + rest_of_pairs p.stations k)
    unfolding rest_of_pairs
    pairs_between =
        let g = sources_between (λ e. cond (is_pair_of p v e) 1 0) p.stations 1 (λ e. at_most (is_pair_of p v e) 1 1 (omega arith)) (no_pair 1) k j less inside in
        let one : (p.stations - 1) * 1 ≡ p.stations - 1 = omega arith in
        let bound = rw one at g in
        omega (arith, pairs_summed k, pairs_summed j)

    -- the same of the load
    pub load_between :
        (partial_load p k v ≤ partial_load p j v) ×
        (partial_load p j v + rest_of_load p.stations j ≤ partial_load p k v + rest_of_load p.stations k)
    unfolding rest_of_pairs rest_of_load
    load_between =
        let g = sources_between (λ e. cond (is_pair_of p v e) (share p v e) 0) p.stations (2 ^ 32) (λ e. at_most (is_pair_of p v e) (share p v e) (2 ^ 32) (share_at_most p v e)) (λ s. no_pair (share p v (ends s s)) s) k j less inside in
        omega (arith, load_summed k, load_summed j, mul_assoc (p.stations - j) (p.stations - 1) (2 ^ 32), mul_assoc (p.stations - k) (p.stations - 1) (2 ^ 32))
