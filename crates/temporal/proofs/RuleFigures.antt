-- Figures of rules that have no other figure, by computation from the definitions: lists in lexicographic order, strictly later slots, stations
-- visited twice, a plan that is no whole number of records, and slot 0.
-- Assumes nothing.
use native.Mathlib.Omega.{arith}
use mathlib.Core.Path.{◌≡◌, refl}
use mathlib.Core.Bool.{true, false}
use mathlib.Core.Logic.{inl, inr}
use mathlib.Core.List.{[], ◌∷◌, flat_map}
use mathlib.Core.Option.{bind}
use Rattle.temporal.specs.Lists.{from, below, select, any, member, distinct, tuples, Before}
use Rattle.temporal.specs.Plan.{Plan, turning, leads_to, may_follow}
use Rattle.temporal.specs.Walk.{along, step, run, last_or, holds, ends_in, is_path}
use Rattle.temporal.specs.Shortest.{or_else, first_nonempty, of_hops, shortest, shortest_walks_to, count}
use Rattle.temporal.specs.Bytes.{records}
use Rattle.temporal.specs.Cause.{wrong_length, wrong_slot}

-- Where two lists differ first, the smaller number stands in the one that stands before (P4), whatever comes behind.
smaller_first : Before (0 ∷ 4 ∷ 10 ∷ []) (1 ∷ 5 ∷ 10 ∷ [])
unfolding Before
smaller_first = inl (omega arith)

smaller_behind : Before (1 ∷ 4 ∷ 10 ∷ []) (1 ∷ 5 ∷ 2 ∷ [])
unfolding Before
smaller_behind = inr (refl, inl (omega arith))

-- 0 sends to 1 and 1 to 2 in one slot: what 1 hears in it goes out in a later slot alone, so there is no walk to 2 (P10).
one_slot : Plan
one_slot =
    record {
      stations = 3;
      slots = 2;
      contacts = record { slot = 1; sender = 0; hearer = 1 } ∷ record { slot = 1; sender = 1; hearer = 2 } ∷ [];
      terms = turning 1;
    }

strictly_later : count (shortest_walks_to one_slot 0 1) ∷ count (shortest_walks_to one_slot 0 2) ∷ [] ≡ 1 ∷ 0 ∷ []
unfolding one_slot from below select any member distinct tuples leads_to may_follow along step run last_or holds ends_in or_else first_nonempty of_hops shortest shortest_walks_to flat_map bind
strictly_later = refl

-- 0 sends to 1, and 1 back: from 0 to itself the empty path is one, and that walk is none, since it visits its source twice.
there_and_back : Plan
there_and_back =
    record {
      stations = 2;
      slots = 2;
      contacts = record { slot = 1; sender = 0; hearer = 1 } ∷ record { slot = 2; sender = 1; hearer = 0 } ∷ [];
      terms = turning 1;
    }

source_once : is_path there_and_back 0 0 [] ∷ is_path there_and_back 0 0 (0 ∷ 1 ∷ []) ∷ [] ≡ true ∷ false ∷ []
unfolding there_and_back any member distinct leads_to may_follow along step run last_or holds is_path bind
source_once = refl

-- Cause 2: a plan of 2 bytes is no whole number of records.
part_of_a_record : wrong_length (0 ∷ 1 ∷ []) ≡ true
unfolding wrong_length records
part_of_a_record = refl

-- Cause 3: slots 1 to T are right, slot 0 and T + 1 are not.
slots_of_two :
    wrong_slot 2 (record { slot = 0; sender = 0; hearer = 1 }) ∷ wrong_slot 2 (record { slot = 1; sender = 0; hearer = 1 }) ∷
    wrong_slot 2 (record { slot = 2; sender = 0; hearer = 1 }) ∷ wrong_slot 2 (record { slot = 3; sender = 0; hearer = 1 }) ∷ []
    ≡ true ∷ false ∷ false ∷ true ∷ []
unfolding wrong_slot
slots_of_two = refl
