-- What the through counts of pairs of small plans add up to, by computation from the definitions: count × (hops - 1), as C-15 says, where
-- nothing goes stale.
-- Assumes nothing.
use mathlib.Core.Path.{◌≡◌, refl}
use mathlib.Core.List.{map, flat_map}
use mathlib.Core.Option.{bind}
use Rattle.temporal.specs.Lists.{from, below, sum, select, any, first_where, member, distinct, tuples}
use Rattle.temporal.specs.Plan.{leads_to, may_follow}
use Rattle.temporal.specs.Walk.{along, step, run, last_or, holds, ends_in, is_walk, is_interior}
use Rattle.temporal.specs.Shortest.{or_else, first_nonempty, of_hops, shortest, shortest_walks, shortest_walks_to, through}
use Rattle.temporal.specs.Foremost.{arrival, foremost_paths}
use Rattle.temporal.specs.OutcomeForemost.{foremost_through}
use Rattle.temporal.proofs.Figures.{outward_a}
use Rattle.temporal.proofs.FreshFigures.{detour}

-- 0 to 4, three paths of 3 hops: the through counts 0, 1, 2, 3, 0 add up to 3 × 2.
pub three_hops : sum (map (through outward_a 0 4) (below 5)) ≡ 6
unfolding outward_a from below sum select any member distinct tuples leads_to may_follow along step run last_or holds ends_in is_interior or_else first_nonempty of_hops shortest shortest_walks_to through flat_map bind
three_hops = refl

-- 0 to 1, one path of one hop: 1 × 0.
pub one_hop : sum (map (through outward_a 0 1) (below 5)) ≡ 0
unfolding outward_a from below sum select any member distinct tuples leads_to may_follow along step run last_or holds ends_in is_interior or_else first_nonempty of_hops shortest shortest_walks_to through flat_map bind
one_hop = refl

-- 0 to 3, two shortest foremost paths of 2 hops (C-14): the through counts 0, 1, 1, 0, 0 add up to 2 × 1.
pub foremost_two_hops : sum (map (foremost_through outward_a 0 3) (below 5)) ≡ 2
unfolding outward_a from below sum first_where select any member distinct tuples leads_to may_follow along step run last_or holds ends_in is_walk is_interior or_else first_nonempty of_hops shortest shortest_walks arrival foremost_paths foremost_through flat_map bind
foremost_two_hops = refl

-- Where readings go stale they need not: one shortest walk of 4 hops, and its through counts add up to 2 and not to 1 × 3.
pub not_accounted : sum (map (through detour 0 3) (below 4)) ≡ 2
unfolding detour from below sum select any member distinct tuples leads_to may_follow along step run last_or holds ends_in is_interior or_else first_nonempty of_hops shortest shortest_walks_to through flat_map bind
not_accounted = refl
