-- A plan with few records and slots has few walks: none of its counts is over 2^64 - 1. Assumes nothing.
use Prim.Native.Nat.{ℕ, ◌+◌, ◌≤◌}
use native.Mathlib.Omega.{arith}
use mathlib.Core.Path.{◌≡◌}
use mathlib.Core.Bool.{Bool, true, false, cond}
use mathlib.Core.List.{List, [], ◌∷◌, map}
use borrow.Author.Tests.{le-ltb}
use lib.Dec.{ltb}
use lib.ListN.{length}
use Rattle.temporal.specs.Lists.{below, sum, select, tuples}
use Rattle.temporal.specs.Plan.{Plan}
use Rattle.temporal.specs.Walk.{is_walk, is_walk_to}
use Rattle.temporal.specs.Shortest.{or_else, first_nonempty, of_hops, shortest, shortest_walks, shortest_walks_to, count}
use Rattle.temporal.specs.Cause.{appearance_too_many, station_too_many, is_too_many, too_many_below, too_many_anywhere}
use Rattle.lists.proofs.ListLaws.{any_false}

-- how many lists of positions there are with as many hops as a walk can have
unfoldable pub most_lists : Plan → ℕ
most_lists p = sum (map (λ k. length (tuples (length p.contacts) k)) (below (p.slots + 1)))

pub select_shorter : (t : List ℕ → Bool) (l : List (List ℕ)) → length (select t l) ≤ length l
unfolding select
select_shorter t [] = omega arith
select_shorter t (w ∷ l) = go (t w) (select_shorter t l)
  where
    go : (b : Bool) → length (select t l) ≤ length l → length (cond b (w ∷ select t l) (select t l)) ≤ length (w ∷ l)
    go true h = omega arith
    go false h = omega arith

first_at_most :
    (f : ℕ → List (List ℕ)) (g : ℕ → ℕ) (l : List ℕ) → ((k : ℕ) → length (f k) ≤ g k) →
    length (first_nonempty f l) ≤ sum (map g l)
unfolding first_nonempty sum or_else
first_at_most f g [] h = omega arith
first_at_most f g (k ∷ l) h = go (f k) (h k) (first_at_most f g l h)
  where
    go :
        (a : List (List ℕ)) → length a ≤ g k → length (first_nonempty f l) ≤ sum (map g l) →
        length (or_else a (first_nonempty f l)) ≤ g k + sum (map g l)
    go [] here rest = omega arith
    go (w ∷ a) here rest = omega arith

-- no list of shortest ones has more
pub few_shortest : (p : Plan) (t : List ℕ → Bool) → count (shortest p t) ≤ most_lists p
unfolding shortest of_hops most_lists
few_shortest p t =
    first_at_most (of_hops p t) (λ k. length (tuples (length p.contacts) k)) (below (p.slots + 1))
    (λ k. select_shorter t (tuples (length p.contacts) k))

module _ (p : Plan) (few : most_lists p ≤ 18446744073709551615) where
  few_appearances : (s : ℕ) → appearance_too_many p s ≡ false
  unfolding shortest_walks
  few_appearances s =
      (any_false _ (below p.stations)).1 (λ v m.
      (any_false (λ u. ltb 18446744073709551615 (count (shortest_walks p s v u))) (below (p.slots + 1))).1 (λ u k.
      le-ltb 18446744073709551615 (count (shortest_walks p s v u))
      (let most = few_shortest p (is_walk p s v u) in omega arith)))

  few_stations : (s : ℕ) → station_too_many p s ≡ false
  unfolding shortest_walks_to
  few_stations s =
      (any_false _ (below p.stations)).1 (λ v m.
      le-ltb 18446744073709551615 (count (shortest_walks_to p s v)) (let most = few_shortest p (is_walk_to p s v) in omega arith))

  -- so 9 is no cause
  pub few_walks : (s : ℕ) → is_too_many p s ≡ false
  unfolding is_too_many
  few_walks s =
      let appearances = few_appearances s in
      let stations = few_stations s in
      rw (appearances, stations)

  pub few_anywhere : too_many_anywhere p ≡ false
  unfolding too_many_below
  few_anywhere = (any_false (is_too_many p) (below p.stations)).1 (λ s m. few_walks s)
