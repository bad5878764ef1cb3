-- A contact that is struck out, by computation from the definitions: the sign of a change, and where 17 stands among the numbers.
-- Assumes nothing.
use Prim.Native.Nat.{ℕ}
use mathlib.Core.Path.{◌≡◌, refl}
use mathlib.Core.List.{List, [], ◌∷◌, map, flat_map}
use mathlib.Core.Option.{bind}
use lib.IntN.{pos, negsuc}
use lib.ListN.{length, replicate}
use Rattle.temporal.specs.Lists.{from, below, sum, select, any, member, distinct, tuples}
use Rattle.temporal.specs.Plan.{Plan, units, leads_to, may_follow}
use Rattle.temporal.specs.Walk.{along, step, run, last_or, holds, ends_in, is_interior}
use Rattle.temporal.specs.Shortest.{or_else, first_nonempty, of_hops, shortest, shortest_walks_to, through}
use Rattle.temporal.specs.Load.{ends_below, pairs_below, share, partial_load}
use Rattle.temporal.specs.Bytes.{word_at, contact_at, records}
use Rattle.temporal.specs.Cause.{cause, first, unless, plan_causes, wrong_turnaround, wrong_keeping, terms_causes}
use Rattle.temporal.specs.Cause.{outside, wrong_length, wrong_slot, wrong_ends, is_above, wrong_order, record_causes}
use Rattle.temporal.specs.Outcome.{entered}
use Rattle.temporal.specs.Struck.{lacking, struck_out, uses, pairs_using, change}
use Rattle.temporal.specs.OutcomeStruck.{StruckBuffers, struck}

-- 0 sends to 3 by way of 1 or of 2
fork : Plan
fork =
    record {
      stations = 4;
      slots = 2;
      contacts =
          record { slot = 1; sender = 0; hearer = 1 } ∷ record { slot = 1; sender = 0; hearer = 2 } ∷
          record { slot = 2; sender = 1; hearer = 3 } ∷ record { slot = 2; sender = 2; hearer = 3 } ∷ [];
      terms = units 1 1;
    }

-- Without the first contact station 1 loses its half, and station 2 has the whole: a change is negative where the load falls.
half_moves : map (change fork 0) (below 4) ≡ pos 0 ∷ negsuc 2147483647 ∷ pos 2147483648 ∷ pos 0 ∷ []
unfolding fork from below sum select any member distinct tuples leads_to may_follow along step run last_or holds ends_in is_interior or_else first_nonempty of_hops shortest shortest_walks_to through ends_below pairs_below share partial_load lacking struck_out change flat_map bind
half_moves = refl

-- The pairs 0, 1 and 0, 3 use it.
two_users : length (pairs_using fork 0) ≡ 2
unfolding fork from below sum select any member distinct tuples leads_to may_follow along step run last_or holds ends_in is_interior or_else first_nonempty of_hops shortest shortest_walks_to ends_below uses pairs_using flat_map bind
two_users = refl

-- a record (1,0,1)
single : List ℕ
single = 0 ∷ 1 ∷ 0 ∷ 0 ∷ 0 ∷ 1 ∷ []

-- a table of k changes, and a work area for two stations and one slot
lent : ℕ → StruckBuffers
lent k = record { change_table = replicate k (pos 7); work = replicate 16 7 }

-- 17 from the number of records on, after 12 and 8.
seventeen_after_eight :
    map (λ i. (struck single 2 1 (units 1 1) i (lent 2)).number) (1 ∷ 2 ∷ []) ∷
    map (λ i. (struck single 2 1 (units 1 1) i (lent 1)).number) (0 ∷ 1 ∷ []) ∷
    map (λ i. (struck single 2 1 (units 17 1) i (lent 1)).number) (0 ∷ 1 ∷ []) ∷ [] ≡
    (17 ∷ 17 ∷ []) ∷ (8 ∷ 8 ∷ []) ∷ (12 ∷ 12 ∷ []) ∷ []
unfolding single lent from below any select word_at contact_at records wrong_length outside wrong_slot wrong_ends is_above wrong_order record_causes plan_causes wrong_turnaround wrong_keeping terms_causes cause first unless entered struck flat_map
seventeen_after_eight = refl
