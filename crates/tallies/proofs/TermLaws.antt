-- The pairs and the load of a station as sums over sources and destinations, and what one pair adds.
-- Assumes nothing.
use Prim.Native.Nat.{ℕ, ◌+◌, ◌*◌, ◌/◌, ◌^◌, ◌<◌, ◌≤◌}
use mathlib.Core.Path.{◌≡◌, refl, ap, ◌∙◌}
use mathlib.Core.Bool.{Bool, true, false, not, cond, ◌&&◌}
use mathlib.Core.List.{List, [], map}
use mathlib.Core.Logic.{⊎_elim, ◌≢◌}
use native.Mathlib.Omega.{arith}
use native.Mathlib.Numerals.{add-one}
use borrow.Author.Tests.{eq-eqb, ne_eqb, lt-ltb}
use lib.Dec.{ltb, eqb}
use lib.ListN.{length}
use Rattle.temporal.specs.Lists.{from, below, sum, select}
use Rattle.temporal.specs.Plan.{Plan, Terms}
use Rattle.temporal.specs.Bytes.{plan_of}
use Rattle.temporal.specs.Cause.{plan_fault}
use Rattle.temporal.specs.Shortest.{shortest_walks_to, hops, through, count}
use Rattle.temporal.specs.Walk.{is_at, is_interior}
use Rattle.temporal.specs.Load.{Ends, ends_below, is_pair_of, partial_pairs, share, partial_load}
use Rattle.lists.proofs.ListLaws.{select_none, length_below, not_true_false}
use Rattle.walks.proofs.ShortestLaws.{hops_bound}
use Rattle.walks.proofs.PathLaws.{interior_inv}
use Rattle.walks.proofs.PlanLaws.{slots_within}
use Rattle.walks.proofs.Accepted.{accepted}
use Rattle.walks.proofs.Adequacy.{bounded_ends}
use Rattle.counting.proofs.ExactSum.{sum_at_most, share_at_most}
use Rattle.counting.proofs.SumLaws.{sum_below_suc}
use Rattle.counting.proofs.PartialLaws.{over_destinations, sum_ends, pairs_summed, load_summed}
use Rattle.tallies.specs.Progress.{ends, pair_term, load_term, partly}

-- nothing more is summed up where there are no destinations
none_more : (x : ℕ) (g : ℕ → ℕ) → x ≡ x + sum (map g (below 0))
unfolding sum below from
none_more x g = omega arith

-- a sum over the ordered pairs whose source is below k, when these sources are done
ends_partly : (f : Ends → ℕ) (k n : ℕ) → sum (map f (ends_below k n)) ≡ partly (λ s z. f (ends s z)) n k 0
unfolding partly over_destinations
ends_partly f k n = sum_ends f k n ∙ none_more _ (λ z. f (ends k z))

-- the pairs of a station, summed up
pub pairs_partly : (p : Plan) (k v : ℕ) → partial_pairs p k v ≡ partly (pair_term p v) p.stations k 0
unfolding pair_term
pairs_partly p k v = pairs_summed p v k ∙ ends_partly (λ e. cond (is_pair_of p v e) 1 0) k p.stations

-- the load of a station, summed up
pub load_partly : (p : Plan) (k v : ℕ) → partial_load p k v ≡ partly (load_term p v) p.stations k 0
unfolding load_term
load_partly p k v = load_summed p v k ∙ ends_partly (λ e. cond (is_pair_of p v e) (share p v e) 0) k p.stations

module _ (f : ℕ → ℕ → ℕ) (n s : ℕ) where
  -- one destination more
  pub partly_next : (z : ℕ) → partly f n s (z + 1) ≡ partly f n s z + f s z
  unfolding partly
  partly_next z = rw add-one (omega (arith, sum_below_suc (f s) z))

  -- all destinations of a source are the beginning of the next source
  pub partly_source : partly f n s n ≡ partly f n (s + 1) 0
  unfolding partly sum below from
  partly_source = rw add-one (omega (arith, sum_below_suc (λ a. sum (map (f a) (below n))) s))

  -- a sum of terms that are each at most b
  pub partly_at_most : (b k : ℕ) → ((a z : ℕ) → f a z ≤ b) → partly f n s k ≤ s * (n * b) + k * b
  unfolding partly
  partly_at_most b k h =
      let first = sum_at_most (λ a. sum (map (f a) (below n))) (n * b) (λ a. all a n) (below s) in
      let last = all s k in
      omega (arith, rw length_below at first)
    where
      all : (a m : ℕ) → sum (map (f a) (below m)) ≤ m * b
      all a m = let g = sum_at_most (f a) b (h a) (below m) in rw length_below at g

-- nothing is summed up at the beginning
pub partly_none : (f : ℕ → ℕ → ℕ) (n : ℕ) → partly f n 0 0 ≡ 0
unfolding partly sum below from
partly_none f n = refl

-- where the through count is 0, or source and destination are equal, a pair adds nothing
pub record Nothing (p : Plan) (v s z : ℕ) : Type 0 where
  pub pairs : pair_term p v s z ≡ 0
  pub load : load_term p v s z ≡ 0

pub nothing_self : (p : Plan) (v s : ℕ) → Nothing p v s s
unfolding pair_term load_term
nothing_self p v s = record { pairs = rw (eq-eqb s s refl); load = rw (eq-eqb s s refl) }

pub nothing_through : (p : Plan) (v s z : ℕ) → through p s z v ≡ 0 → Nothing p v s z
unfolding pair_term load_term
nothing_through p v s z e =
    record { pairs = rw e (off (not (eqb s z)) 1); load = rw e (off (not (eqb s z)) (share p v (ends s z))) }
  where
    off : (b : Bool) (x : ℕ) → cond (b && ltb 0 0) x 0 ≡ 0
    off true x = refl
    off false x = refl

-- no shortest walk has its destination inside
pub through_destination : (p : Plan) (s z : ℕ) → through p s z z ≡ 0
unfolding through
through_destination p s z =
    ap length (select_none (shortest_walks_to p s z) (λ w m.
    not_true_false (is_interior p s z z w) (λ e. (interior_inv p s z z w e).not_destination refl)))

-- where there is no walk, none has v inside
pub through_none : (bs : List ℕ) (n t : ℕ) (terms : Terms) → plan_fault bs n t ≡ 0 → (s z v : ℕ)
    → 65535 ≤ hops (shortest_walks_to (plan_of bs n t terms) s z) → through (plan_of bs n t terms) s z v ≡ 0
unfolding through shortest_walks_to select plan_of
through_none bs n t terms ok s z v h =
    ⊎_elim
    (λ (e : shortest_walks_to (plan_of bs n t terms) s z ≡ []). rw e)
    (λ (g : hops (shortest_walks_to (plan_of bs n t terms) s z) ≤ (plan_of bs n t terms).slots).
    absurd (let few = (accepted bs n t ok).slots in omega arith))
    (hops_bound (bounded_ends (plan_of bs n t terms) (slots_within bs n t terms ok) s (is_at z)))

module _ (p : Plan) (v s z : ℕ) (apart : s ≢ z) (some : 0 < through p s z v) where
  -- a pair of two stations with v inside some walk adds 1 and its share
  pub pair_adds : pair_term p v s z ≡ 1
  unfolding pair_term
  pair_adds = rw (ne_eqb s z apart, lt-ltb 0 _ some)

  pub load_adds : load_term p v s z ≡ 2 ^ 32 * through p s z v / count (shortest_walks_to p s z)
  unfolding load_term share
  load_adds = rw (ne_eqb s z apart, lt-ltb 0 _ some)

module _ (p : Plan) (v s z : ℕ) where
  -- how much a pair can add
  pub pair_at_most : pair_term p v s z ≤ 1
  unfolding pair_term
  pair_at_most = step (is_pair_of p v (ends s z))
    where
      step : (b : Bool) → cond b 1 0 ≤ 1
      step true = omega arith
      step false = omega arith

  pub load_at_most_whole : load_term p v s z ≤ 2 ^ 32
  unfolding load_term
  load_at_most_whole = step (is_pair_of p v (ends s z)) (share_at_most p v (ends s z))
    where
      step : (b : Bool) {x : ℕ} → x ≤ 2 ^ 32 → cond b x 0 ≤ 2 ^ 32
      step true h = h
      step false h = omega arith
