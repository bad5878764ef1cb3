-- Pairs, shares and loads. Definitions only.
-- Assumes nothing.
use Rattle.std.specs.Prelude.{ℕ, ◌+◌, ◌-◌, ◌*◌, ◌/◌, ◌^◌, ◌<◌, ◌≤◌, ◌≡◌, Bool, not, ◌&&◌, ltb, eqb, length}
use mathlib.Core.List.{List, map, flat_map}
use Rattle.temporal.specs.Lists.{below, sum, product, select, any, first_where}
use Rattle.temporal.specs.Plan.{Plan}
use Rattle.temporal.specs.Shortest.{shortest_walks_to, count, through_in, through}

-- an ordered pair: a source and a destination
pub record Ends : Type 0 where
  pub source : ℕ
  pub destination : ℕ

-- all ordered pairs of two stations of n, two equal ones too, whose source is below k
unfoldable pub ends_below : ℕ → ℕ → List Ends
ends_below k n = flat_map (λ s. map (λ z. record { source = s; destination = z }) (below n)) (below k)

-- how many shortest walks a pair has, and how many of them have v inside
abbrev pub count_of : Plan → Ends → ℕ
count_of p e = count (shortest_walks_to p e.source e.destination)

abbrev pub through_of : Plan → ℕ → Ends → ℕ
through_of p v e = through p e.source e.destination v

-- whether e is a pair of two different stations with v inside some shortest walk of it
abbrev pub is_pair_of : Plan → ℕ → Ends → Bool
is_pair_of p v e = not (eqb e.source e.destination) && ltb 0 (through_of p v e)

-- Document 01's pairs of a station v, the ordered pairs s ≠ z with v inside some least chain (document 02, C-21): those
-- whose source is below k (document 02, C-18). Where k is the number of stations these are all of them.
unfoldable pub pairs_below : Plan → ℕ → ℕ → List Ends
pairs_below p k v = select (is_pair_of p v) (ends_below k p.stations)

abbrev pub pairs_of : Plan → ℕ → List Ends
pairs_of p v = pairs_below p p.stations v

-- how many pairs a station has whose source is below k, and how many it has
unfoldable pub partial_pairs : Plan → ℕ → ℕ → ℕ
partial_pairs p k v = length (pairs_below p k v)

abbrev pub pairs : Plan → ℕ → ℕ
pairs p v = partial_pairs p p.stations v

-- Document 01's share: the whole part of 2^32 × through ÷ count. Numbers have no limit here. (Document 002, Def. 2.3, has
-- the sum of sigma_sz(v) / sigma_sz; its factor 1 / (n (n - 1)) is left out.)
unfoldable pub share : Plan → ℕ → Ends → ℕ
share p v e = 2 ^ 32 * through_of p v e / count_of p e

-- Document 01's load of a station: the sum of the shares over its pairs, in units of 1 / 2^32. Each share is rounded down.
-- Document 02's partial load (C-18) is the sum over those whose source is below k.
unfoldable pub partial_load : Plan → ℕ → ℕ → ℕ
partial_load p k v = sum (map (share p v) (pairs_below p k v))

abbrev pub load : Plan → ℕ → ℕ
load p v = partial_load p p.stations v

-- Document 02's bounds (C-18): by how much, of n stations, a station's pairs may exceed those whose source is below k, and by how
-- much its load may exceed the partial one.
unfoldable pub rest_of_pairs : ℕ → ℕ → ℕ
rest_of_pairs n k = (n - k) * (n - 1)

unfoldable pub rest_of_load : ℕ → ℕ → ℕ
rest_of_load n k = rest_of_pairs n k * 2 ^ 32

-- Document 01's D: the product of the counts of the station's pairs, 1 if there are none.
unfoldable pub common_count : Plan → ℕ → ℕ
common_count p v = product (map (count_of p) (pairs_of p v))

-- Document 01's S: the sum of through × (D ÷ count) over the pairs, so that S ÷ D is the exact sum of shares.
unfoldable pub exact_sum : Plan → ℕ → ℕ
exact_sum p v = sum (map (λ e. through_of p v e * (common_count p v / count_of p e)) (pairs_of p v))

-- Document 01's distance of a load from the exact sum, in whole numbers: where there are pairs, load × D is at most 2^32 × S,
-- and 2^32 × S is below (load + pairs) × D; where there are none, load and S are 0.
pub record WithinExactSum (p : Plan) (v : ℕ) : Type 0 where
  pub at_most : load p v * common_count p v ≤ 2 ^ 32 * exact_sum p v
  pub less : 0 < pairs p v → 2 ^ 32 * exact_sum p v < (load p v + pairs p v) * common_count p v
  pub none : pairs p v ≡ 0 → (load p v ≡ 0) × (exact_sum p v ≡ 0)

-- whether no station's load exceeds the load of v
unfoldable pub is_largest : Plan → ℕ → Bool
is_largest p v = not (any (λ u. ltb (load p v) (load p u)) (below p.stations))

-- Document 02's busiest (C-11), document 01's made definite: the lowest-numbered station whose load no other exceeds, the first
-- of 0, 1, .. of which this holds. (There always is one: proofs/BusiestLaws.)
unfoldable pub busiest_of : Plan → ℕ
busiest_of p = first_where 0 (is_largest p) (below p.stations)

-- What is to hold of it: it is one of the stations, no other's load exceeds its load, and every lower-numbered one's is smaller.
pub record Busiest (p : Plan) (v : ℕ) : Type 0 where
  pub station : v < p.stations
  pub largest : (u : ℕ) → u < p.stations → load p u ≤ load p v
  pub lowest : (u : ℕ) → u < v → load p u < load p v

-- ---- the same by other lists of ways: P gives the list of a source and a destination

-- The pairs and the load of a station where P takes the place of the complete lists. With the shortest walks they are those above.
unfoldable pub pairs_by : Plan → (ℕ → ℕ → List (List ℕ)) → ℕ → List Ends
pairs_by p P v =
    select
    (λ e. not (eqb e.source e.destination) &&
    ltb 0 (through_in p e.source e.destination (P e.source e.destination) v))
    (ends_below p.stations p.stations)

unfoldable pub load_by : Plan → (ℕ → ℕ → List (List ℕ)) → ℕ → ℕ
load_by p P v =
    sum
    (map
    (λ e. 2 ^ 32 * through_in p e.source e.destination (P e.source e.destination) v /
    count (P e.source e.destination))
    (pairs_by p P v))
