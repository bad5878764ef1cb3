-- Small plans whose readings go stale, by computation from the definitions: how long a reading is kept, that the first leg is free, and a
-- shortest walk that visits a station twice.
-- Assumes nothing.
use Prim.Native.Nat.{ℕ}
use mathlib.Core.Path.{◌≡◌, refl}
use mathlib.Core.Bool.{true}
use mathlib.Core.List.{[], ◌∷◌, map, flat_map}
use mathlib.Core.Option.{bind}
use Rattle.temporal.specs.Lists.{from, below, select, any, member, distinct, tuples}
use Rattle.temporal.specs.Plan.{Contact, Plan, units, leads_to, may_follow}
use Rattle.temporal.specs.Walk.{along, step, run, last_or, holds, ends_in, is_path, is_interior}
use Rattle.temporal.specs.Shortest.{or_else, first_nonempty, of_hops, shortest, shortest_walks_to, shortest_paths, count, through}
use Rattle.temporal.specs.Bytes.{records}
use Rattle.temporal.specs.Cause.{cause, first, unless, outside, wrong_length, plan_causes, wrong_turnaround, wrong_keeping, terms_causes, ends_causes, pair_causes}
use Rattle.temporal.specs.Outcome.{entered}
use Rattle.temporal.specs.OutcomePair.{partial_loads}

abbrev contact : ℕ → ℕ → ℕ → Contact
contact t a b = record { slot = t; sender = a; hearer = b }

-- 0 sends to 1 in slot 1, and 1 to 2 in a later slot; a reading is kept for two slots
chain : ℕ → Plan
chain u = record { stations = 3; slots = 5; contacts = contact 1 0 1 ∷ contact u 1 2 ∷ []; terms = units 1 2 }

-- What is heard in slot 1 goes out in slots 2 and 3, and not in slot 4.
kept_for_two_slots :
    count (shortest_walks_to (chain 2) 0 2) ∷ count (shortest_walks_to (chain 3) 0 2) ∷ count (shortest_walks_to (chain 4) 0 2) ∷ [] ≡
    1 ∷ 1 ∷ 0 ∷ []
unfolding chain from below select any member distinct tuples leads_to may_follow along step run last_or holds ends_in or_else first_nonempty of_hops shortest shortest_walks_to flat_map bind
kept_for_two_slots = refl

-- one contact in slot 5; a reading is kept for one slot
late : Plan
late = record { stations = 2; slots = 5; contacts = contact 5 0 1 ∷ []; terms = units 1 1 }

-- The first leg may use any slot.
first_leg_never_stale : count (shortest_walks_to late 0 1) ≡ 1
unfolding late from below select any member distinct tuples leads_to may_follow along step run last_or holds ends_in or_else first_nonempty of_hops shortest shortest_walks_to flat_map bind
first_leg_never_stale = refl

-- 1 hears in slot 1 and sends to 3 in slot 4 alone; a reading is kept for one slot, so it goes to 2 and back in between
unfoldable pub detour : Plan
detour =
    record {
      stations = 4;
      slots = 4;
      contacts = contact 1 0 1 ∷ contact 2 1 2 ∷ contact 3 2 1 ∷ contact 4 1 3 ∷ [];
      terms = units 1 1;
    }

-- The one walk from 0 to 3 visits station 1 twice, so there is no path.
pub walk_and_no_path : shortest_walks_to detour 0 3 ≡ (0 ∷ 1 ∷ 2 ∷ 3 ∷ []) ∷ []
unfolding detour from below select any member distinct tuples leads_to may_follow along step run last_or holds ends_in or_else first_nonempty of_hops shortest shortest_walks_to flat_map bind
walk_and_no_path = refl

pub no_path_at_all : shortest_paths detour 0 3 ≡ []
unfolding detour from below select any member distinct tuples leads_to may_follow along step run last_or holds is_path or_else first_nonempty of_hops shortest shortest_paths flat_map bind
no_path_at_all = refl

-- It counts once for station 1.
pub once_for_two_visits : map (through detour 0 3) (below 4) ≡ 0 ∷ 1 ∷ 1 ∷ 0 ∷ []
unfolding detour from below select any member distinct tuples leads_to may_follow along step run last_or holds ends_in is_interior or_else first_nonempty of_hops shortest shortest_walks_to through flat_map bind
once_for_two_visits = refl

-- 14 is told below the turnaround and above 255, after 12, and before 6 and 13.
fourteen_between :
    map (λ h. first (pair_causes (units 3 h) 2 2 2 true)) (0 ∷ 2 ∷ 3 ∷ 255 ∷ 256 ∷ 65536 ∷ []) ∷
    map (λ h. first (pair_causes (units 17 h) 2 2 2 true)) (0 ∷ 255 ∷ []) ∷
    map (λ h. (partial_loads [] 3 1 (units 1 h) 4 (record { pairs_table = []; load_table = []; work = [] })).number) (0 ∷ 1 ∷ 256 ∷ []) ∷ [] ≡
    (14 ∷ 14 ∷ 6 ∷ 6 ∷ 14 ∷ 14 ∷ []) ∷ (12 ∷ 12 ∷ []) ∷ (14 ∷ 13 ∷ 14 ∷ []) ∷ []
unfolding from below any records wrong_length outside plan_causes wrong_turnaround wrong_keeping terms_causes ends_causes pair_causes cause first unless entered partial_loads flat_map
fourteen_between = refl
