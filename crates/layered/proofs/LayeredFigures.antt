-- The layered plan of a small plan, by computation from the definitions. Assumes nothing.
use Prim.Native.Nat.{ℕ}
use mathlib.Core.Path.{◌≡◌, refl}
use mathlib.Core.List.{List, [], ◌∷◌, map, flat_map}
use mathlib.Core.Option.{bind}
use Rattle.temporal.specs.Lists.{from, below, select, any, first_where, member, tuples}
use Rattle.temporal.specs.Plan.{units, leads_to, may_follow}
use Rattle.temporal.specs.Walk.{along, step, run, last_or, holds, ends_in, is_interior}
use Rattle.temporal.specs.Shortest.{or_else, first_nonempty, of_hops, shortest, shortest_walks_to}
use Rattle.temporal.specs.Bytes.{word_at, contact_at, records, plan_of}
use Rattle.layered.specs.Layered.{in_layer, heard_in, raised, slot_start, slot_at, shift, layer_of, down, layered_contact, layered}

-- four stations, two slots: 0 sends to 3 by way of 1 or of 2
fork : List ℕ
fork = 0 ∷ 1 ∷ 0 ∷ 0 ∷ 0 ∷ 1 ∷ 0 ∷ 1 ∷ 0 ∷ 0 ∷ 0 ∷ 2 ∷ 0 ∷ 2 ∷ 0 ∷ 1 ∷ 0 ∷ 3 ∷ 0 ∷ 2 ∷ 0 ∷ 2 ∷ 0 ∷ 3 ∷ []

-- (1,0,1), (1,0,2), (1,4,5), (1,4,6), then (2,1,7), since 1 sends it, (2,2,3), (2,5,7), (2,6,7)
fork_layered : layered fork 4 1 ≡
    0 ∷ 1 ∷ 0 ∷ 0 ∷ 0 ∷ 1 ∷ 0 ∷ 1 ∷ 0 ∷ 0 ∷ 0 ∷ 2 ∷ 0 ∷ 1 ∷ 0 ∷ 4 ∷ 0 ∷ 5 ∷ 0 ∷ 1 ∷ 0 ∷ 4 ∷ 0 ∷ 6 ∷
    0 ∷ 2 ∷ 0 ∷ 1 ∷ 0 ∷ 7 ∷ 0 ∷ 2 ∷ 0 ∷ 2 ∷ 0 ∷ 3 ∷ 0 ∷ 2 ∷ 0 ∷ 5 ∷ 0 ∷ 7 ∷ 0 ∷ 2 ∷ 0 ∷ 6 ∷ 0 ∷ 7 ∷ []
unfolding fork layered layered_contact raised heard_in in_layer layer_of down shift slot_at slot_start contact_at word_at records from below first_where flat_map
fork_layered = refl

-- the positions below them
fork_down : map (down fork) (below 8) ≡ 0 ∷ 1 ∷ 0 ∷ 1 ∷ 2 ∷ 3 ∷ 2 ∷ 3 ∷ []
unfolding fork layer_of down shift slot_at slot_start contact_at word_at records from below first_where
fork_down = refl

-- of the walks 0, 2 and 1, 3 from 0 to 3 the first has 1 inside: it is the one walk from 0 to 7
fork_walks : shortest_walks_to (plan_of (layered fork 4 1) 8 2 (units 1 255)) 0 7 ≡ (0 ∷ 4 ∷ []) ∷ []
unfolding fork layered layered_contact raised heard_in in_layer layer_of down shift slot_at slot_start contact_at word_at records plan_of from below first_where select tuples leads_to may_follow along step run last_or holds ends_in or_else first_nonempty of_hops shortest shortest_walks_to flat_map bind
fork_walks = refl

fork_inside : select (is_interior (plan_of fork 4 2 (units 1 255)) 0 3 1) (shortest_walks_to (plan_of fork 4 2 (units 1 255)) 0 3) ≡
    (0 ∷ 2 ∷ []) ∷ []
unfolding fork contact_at word_at records plan_of from below select any member tuples leads_to may_follow along step run last_or holds ends_in is_interior or_else first_nonempty of_hops shortest shortest_walks_to flat_map bind
fork_inside = refl
