-- Figures of small plans by computation from the definitions: a single record, a load in which rounding each share and rounding
-- the sum differ, a set of two stations on one walk, a set of the destination, turnarounds,
-- shortest foremost paths; and which of 9 and 11 is told.
-- Assumes nothing.
use Prim.Native.Nat.{ℕ, ◌+◌}
use mathlib.Core.Path.{◌≡◌, refl}
use mathlib.Core.Bool.{true, ◌||◌}
use mathlib.Core.List.{List, [], ◌∷◌, map, flat_map}
use mathlib.Core.Option.{bind}
use lib.Dec.{leb, ltb, eqb}
use Rattle.temporal.specs.Lists.{from, below, sum, product, select, any, first_where, member, distinct, tuples}
use Rattle.temporal.specs.Plan.{Plan, Terms, turning, leads_to, may_follow}
use Rattle.temporal.specs.Walk.{along, step, run, last_or, holds, ends_in, is_walk, is_interior}
use Rattle.temporal.specs.Shortest.{or_else, first_nonempty, of_hops, shortest, shortest_walks, shortest_walks_to}
use Rattle.temporal.specs.Shortest.{hops, count, through}
use Rattle.temporal.specs.Foremost.{arrival, foremost_paths}
use Rattle.temporal.specs.OutcomeForemost.{foremost_through}
use Rattle.temporal.specs.Set.{touches, touched}
use Rattle.temporal.specs.Load.{ends_below, pairs_below, partial_pairs, share, partial_load, load, rest_of_pairs, rest_of_load}
use Rattle.temporal.specs.Bytes.{records, plan_of}
use Rattle.temporal.specs.Cause.{cause, first, unless, outside, wrong_length, plan_causes, plan_fault, wrong_turnaround, wrong_keeping, terms_causes, ends_causes, pair_causes, is_too_many}
use Rattle.temporal.specs.Outcome.{entered, short, work_size}
use Rattle.temporal.specs.OutcomePair.{partial_loads}
use Rattle.temporal.specs.Cursor.{same_numbers}
use Rattle.temporal.specs.Verdict.{complete, beginning, wrong, joined, verdict_on}
use Rattle.temporal.specs.OutcomeSet.{wrong_set, set_causes, set_counted, through_set}
use Rattle.temporal.proofs.CauseLaws.{first_append_none}

-- one contact, in which 0 sends and 1 hears (document 02, C-16)
single : Plan
single = record { stations = 2; slots = 1; contacts = record { slot = 1; sender = 0; hearer = 1 } ∷ []; terms = turning 1 }

-- It leads from its sender to its hearer, and there is no walk back.
one_way : count (shortest_walks_to single 0 1) ∷ count (shortest_walks_to single 1 0) ∷ [] ≡ 1 ∷ 0 ∷ []
unfolding single from below select any member distinct tuples leads_to may_follow along step run last_or holds ends_in or_else first_nonempty of_hops shortest shortest_walks_to flat_map bind
one_way = refl

-- plan A of document 01 with each contact in one direction alone, a sending and b hearing: its walks from 0 are plan A's
unfoldable pub outward_a : Plan
outward_a =
    record {
      stations = 5;
      slots = 4;
      contacts =
          record { slot = 1; sender = 0; hearer = 1 } ∷ record { slot = 1; sender = 0; hearer = 2 } ∷
          record { slot = 2; sender = 1; hearer = 3 } ∷ record { slot = 2; sender = 2; hearer = 3 } ∷
          record { slot = 3; sender = 2; hearer = 3 } ∷ record { slot = 4; sender = 3; hearer = 4 } ∷ [];
      terms = turning 1;
    }

-- slot, hops and count of the shortest foremost paths of a pair
foremost_told : Plan → ℕ → ℕ → List ℕ
foremost_told p s z = arrival p s z ∷ hops (foremost_paths p s z) ∷ count (foremost_paths p s z) ∷ []

-- Station 2 has two pairs, 2 of 3 shortest walks of each: twice the whole part of 2^33 / 3 (P9).
load_of_two_pairs : load outward_a 2 ≡ 5726623060
unfolding outward_a from below sum product select any member distinct tuples leads_to may_follow along step run last_or holds ends_in is_interior or_else first_nonempty of_hops shortest shortest_walks_to through ends_below pairs_below share partial_load flat_map bind
load_of_two_pairs = refl

-- Station 3 has three pairs, with the sources 0, 1 and 2 and the destination 4, and all their shortest walks go through it: with k sources
-- worked on it has the pairs of those (document 02, C-18).
partial_loads_of_one_station :
    flat_map (λ k. partial_pairs outward_a k 3 ∷ partial_load outward_a k 3 ∷ []) (0 ∷ 1 ∷ 2 ∷ 3 ∷ 5 ∷ []) ≡
    0 ∷ 0 ∷ 1 ∷ 4294967296 ∷ 2 ∷ 8589934592 ∷ 3 ∷ 12884901888 ∷ 3 ∷ 12884901888 ∷ []
unfolding outward_a from below sum product select any member distinct tuples leads_to may_follow along step run last_or holds ends_in is_interior or_else first_nonempty of_hops shortest shortest_walks_to through ends_below pairs_below partial_pairs share partial_load flat_map bind
partial_loads_of_one_station = refl

-- the one pair of station 1 has the last source
backwards : Plan
backwards =
    record {
      stations = 3;
      slots = 2;
      contacts = record { slot = 1; sender = 2; hearer = 1 } ∷ record { slot = 2; sender = 1; hearer = 0 } ∷ [];
      terms = turning 1;
    }

-- Without the last source it has no load, and what the bound leaves open covers the load that it has with it.
rest_of_last_source :
    leb (load backwards 1) (partial_load backwards 2 1 + rest_of_load 3 2) ∷ ltb 0 (load backwards 1) ∷
    eqb (partial_load backwards 2 1) 0 ∷ [] ≡
    true ∷ true ∷ true ∷ []
unfolding backwards from below sum product select any member distinct tuples leads_to may_follow along step run last_or holds ends_in is_interior or_else first_nonempty of_hops shortest shortest_walks_to through ends_below pairs_below share partial_load rest_of_pairs rest_of_load flat_map bind
rest_of_last_source = refl

-- 13 is told above n alone, after 12 and before 8 (document 02, C-18).
thirteen_before_eight :
    map (λ k. (partial_loads [] 3 1 (turning 1) k (record { pairs_table = []; load_table = []; work = [] })).number)
    (0 ∷ 2 ∷ 3 ∷ 4 ∷ 65536 ∷ []) ∷
    map (λ k. (partial_loads [] 3 1 (turning 17) k (record { pairs_table = []; load_table = []; work = [] })).number)
    (3 ∷ 4 ∷ []) ∷ [] ≡
    (8 ∷ 8 ∷ 8 ∷ 13 ∷ 13 ∷ []) ∷ (12 ∷ 12 ∷ []) ∷ []
unfolding from below any records wrong_length outside plan_causes wrong_turnaround wrong_keeping terms_causes cause first unless entered partial_loads flat_map
thirteen_before_eight = refl

-- Of the three shortest walks from 0 to 4 all go through station 3 and two of them through station 2 too: each counts once.
set_of_two : touched outward_a 0 4 (λ v. eqb v 2 || eqb v 3) ≡ 3
unfolding outward_a from below sum select any member distinct tuples leads_to may_follow along step run last_or holds ends_in is_interior or_else first_nonempty of_hops shortest shortest_walks_to touches touched flat_map bind
set_of_two = refl

-- All of them end at station 4, and none has it inside.
set_of_destination : touched outward_a 0 4 (λ v. eqb v 4) ≡ 0
unfolding outward_a from below sum select any member distinct tuples leads_to may_follow along step run last_or holds ends_in is_interior or_else first_nonempty of_hops shortest shortest_walks_to touches touched flat_map bind
set_of_destination = refl

-- ---- turnarounds (document 02, C-17)

-- plan A's contacts in one direction where a station needs two slots between hearing and sending on
slow_a : Plan
slow_a = record { stations = 5; slots = 4; contacts = outward_a.contacts; terms = turning 2 }

-- Station 3 is reached from 0 over station 2 in slots 1 and 3 alone, and then there is no time to reach station 4.
time_to_turn : count (shortest_walks_to slow_a 0 3) ∷ count (shortest_walks_to slow_a 0 4) ∷ [] ≡ 1 ∷ 0 ∷ []
unfolding slow_a outward_a from below select any member distinct tuples leads_to may_follow along step run last_or holds ends_in or_else first_nonempty of_hops shortest shortest_walks_to flat_map bind
time_to_turn = refl

-- the single contact with the longest turnaround
slow_single : Plan
slow_single = record { stations = 2; slots = 1; contacts = single.contacts; terms = turning 16 }

-- The first leg may use any slot.
first_leg_free : count (shortest_walks_to slow_single 0 1) ≡ 1
unfolding slow_single single from below select any member distinct tuples leads_to may_follow along step run last_or holds ends_in or_else first_nonempty of_hops shortest shortest_walks_to flat_map bind
first_leg_free = refl

-- 12 is told before 6, outside 1 to 16 alone.
twelve_before_six :
    map (λ g. first (pair_causes (turning g) 2 2 2 true)) (0 ∷ 1 ∷ 16 ∷ 17 ∷ 65535 ∷ []) ≡ 12 ∷ 6 ∷ 6 ∷ 12 ∷ 12 ∷ []
unfolding pair_causes wrong_turnaround wrong_keeping terms_causes ends_causes cause first
twelve_before_six = refl

-- ---- shortest foremost paths

-- Plan A, 0 to 3 (document 02, C-14): slot 2, 2 hops, count 2. In slot 3 there is one more path with as many hops.
foremost_of_outward_a : foremost_told outward_a 0 3 ≡ 2 ∷ 2 ∷ 2 ∷ []
unfolding foremost_told outward_a from below first_where select any member distinct tuples leads_to may_follow along step run last_or holds ends_in is_walk or_else first_nonempty of_hops shortest shortest_walks shortest_walks_to hops arrival foremost_paths flat_map bind
foremost_of_outward_a = refl

-- Both end at station 3, and neither has it inside; station 1 is inside one of them.
foremost_inside : foremost_through outward_a 0 3 3 ∷ foremost_through outward_a 0 3 1 ∷ [] ≡ 0 ∷ 1 ∷ []
unfolding outward_a from below first_where select any member distinct tuples leads_to may_follow along step run last_or holds ends_in is_walk is_interior or_else first_nonempty of_hops shortest shortest_walks arrival foremost_paths foremost_through flat_map bind
foremost_inside = refl

-- Station 2 is reached in slot 2 over two hops, and over one hop only in slot 3; station 3 is reached in slot 4 over two hops and
-- over three.
detours : Plan
detours =
    record {
      stations = 4;
      slots = 4;
      contacts =
          record { slot = 1; sender = 0; hearer = 1 } ∷ record { slot = 2; sender = 1; hearer = 2 } ∷
          record { slot = 3; sender = 0; hearer = 2 } ∷ record { slot = 4; sender = 1; hearer = 3 } ∷
          record { slot = 4; sender = 2; hearer = 3 } ∷ [];
      terms = turning 1;
    }

foremost_not_shortest : foremost_told detours 0 2 ≡ 2 ∷ 2 ∷ 1 ∷ []
unfolding foremost_told detours from below first_where select any member distinct tuples leads_to may_follow along step run last_or holds ends_in is_walk or_else first_nonempty of_hops shortest shortest_walks shortest_walks_to hops arrival foremost_paths flat_map bind
foremost_not_shortest = refl

foremost_fewest_hops : foremost_told detours 0 3 ≡ 4 ∷ 2 ∷ 2 ∷ []
unfolding foremost_told detours from below first_where select any member distinct tuples leads_to may_follow along step run last_or holds ends_in is_walk or_else first_nonempty of_hops shortest shortest_walks shortest_walks_to hops arrival foremost_paths flat_map bind
foremost_fewest_hops = refl

-- ---- verdicts (document 02, C-19)

-- Two ways of two positions each: none and one of them are beginnings, both are complete; cut inside a way, without the first, in
-- another order, with one way twice, or with an entry behind, a list is wrong. Where there is no way the empty list is complete.
verdicts_on_lists :
    map (verdict_on ((0 ∷ 2 ∷ []) ∷ (1 ∷ 2 ∷ []) ∷ []))
    ([] ∷ (0 ∷ 2 ∷ []) ∷ (0 ∷ 2 ∷ 1 ∷ 2 ∷ []) ∷ (0 ∷ 2 ∷ 1 ∷ []) ∷ (1 ∷ 2 ∷ []) ∷ (1 ∷ 2 ∷ 0 ∷ 2 ∷ []) ∷ (0 ∷ 2 ∷ 0 ∷ 2 ∷ []) ∷
    (0 ∷ 2 ∷ 1 ∷ 2 ∷ 0 ∷ []) ∷ []) ∷
    map (verdict_on []) ([] ∷ (0 ∷ []) ∷ []) ∷ [] ≡
    (beginning ∷ beginning ∷ complete ∷ wrong ∷ wrong ∷ wrong ∷ wrong ∷ wrong ∷ []) ∷ (complete ∷ wrong ∷ []) ∷ []
unfolding from below any same_numbers joined verdict_on flat_map
verdicts_on_lists = refl

-- Where 1 to 8, 12 and 14 do not hold, and both 9 and 11 do, 11 is told (document 02, C-12).
pub eleven_before_nine :
    (bs : List ℕ) (n t : ℕ) (terms : Terms) (s z : ℕ) (set old : List ℕ) → plan_fault bs n t ≡ 0 →
    first (pair_causes terms n s z (short n set || short (work_size n t) old)) ≡ 0 → wrong_set n set ≡ true →
    is_too_many (plan_of bs n t terms) s ≡ true → (through_set bs n t terms s z set old).number ≡ 11
unfolding through_set set_counted entered set_causes plan_fault first cause unless
eleven_before_nine bs n t terms s z set old ok free byte many =
    rw (byte, many, first_append_none (plan_causes bs n t) _ ok, first_append_none (pair_causes terms n s z _) _ free)
