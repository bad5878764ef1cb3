-- The busiest station of small plans, by computation from the definitions (document 02, C-11).
-- Assumes nothing.
use Prim.Native.Nat.{◌<◌}
use mathlib.Core.Path.{◌≡◌, refl}
use mathlib.Core.List.{[], ◌∷◌, map, flat_map}
use mathlib.Core.Option.{bind}
use native.Mathlib.Omega.{arith}
use Rattle.temporal.specs.Lists.{from, below, sum, select, any, first_where, member, distinct, tuples}
use Rattle.temporal.specs.Plan.{Plan, turning, leads_to, may_follow}
use Rattle.temporal.specs.Walk.{along, step, run, last_or, holds, ends_in, is_interior}
use Rattle.temporal.specs.Shortest.{or_else, first_nonempty, of_hops, shortest, shortest_walks_to, through}
use Rattle.temporal.specs.Load.{ends_below, pairs_below, share, partial_load, load, is_largest, busiest_of, Busiest}
use Rattle.temporal.proofs.Figures.{outward_a}

-- Stations 1 and 2 have one pair each, of one walk: 3 to 2 over station 1, and 0 to 1 over station 2.
equals : Plan
equals =
    record {
      stations = 4;
      slots = 2;
      contacts =
          record { slot = 1; sender = 0; hearer = 2 } ∷ record { slot = 1; sender = 3; hearer = 1 } ∷
          record { slot = 2; sender = 1; hearer = 2 } ∷ record { slot = 2; sender = 2; hearer = 1 } ∷ [];
      terms = turning 1;
    }

loads_of_equals : map (load equals) (below 4) ≡ 0 ∷ 4294967296 ∷ 4294967296 ∷ 0 ∷ []
unfolding equals from below sum select any member distinct tuples leads_to may_follow along step run last_or holds ends_in is_interior or_else first_nonempty of_hops shortest shortest_walks_to through ends_below pairs_below share partial_load flat_map bind
loads_of_equals = refl

-- Of two equal loads the lower-numbered station is given.
busiest_of_equals : busiest_of equals ≡ 1
unfolding equals from below sum select any first_where member distinct tuples leads_to may_follow along step run last_or holds ends_in is_interior or_else first_nonempty of_hops shortest shortest_walks_to through ends_below pairs_below share partial_load is_largest busiest_of flat_map bind
busiest_of_equals = refl

-- What is to hold of the busiest station does not hold of the other.
lowest_alone : Busiest equals 2 → ⊥
unfolding equals from below sum select any member distinct tuples leads_to may_follow along step run last_or holds ends_in is_interior or_else first_nonempty of_hops shortest shortest_walks_to through ends_below pairs_below share partial_load flat_map bind
lowest_alone b =
    let less : load equals 1 < load equals 2 = b.lowest 1 (omega arith) in
    let one : load equals 1 ≡ 4294967296 = refl in
    let two : load equals 2 ≡ 4294967296 = refl in omega (arith, less, one, two)

-- Stations 1, 2 and 3 of plan A's contacts have a load, and that of station 3 is the largest.
busiest_of_outward_a : busiest_of outward_a ≡ 3
unfolding outward_a from below sum select any first_where member distinct tuples leads_to may_follow along step run last_or holds ends_in is_interior or_else first_nonempty of_hops shortest shortest_walks_to through ends_below pairs_below share partial_load is_largest busiest_of flat_map bind
busiest_of_outward_a = refl
