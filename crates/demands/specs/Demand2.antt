-- Demand 2: what reach and pair leave in the tables is read off the list of a station's shortest walks, or of an appearance's, for every
-- turnaround and for however long a reading is kept; and nothing stands in these lists but what document 000 means, with document 002's
-- restless rule (section 4.3). Definitions only.
-- Assumes nothing.
use Rattle.pair.specs.declared.PairCount.{PairCount}
use Rattle.plan.specs.Fault.{answer_number}
use Rattle.plan.specs.declared.Fault.{Fault}
use Rattle.std.specs.Prelude.{Result}
use Rattle.std.specs.Prelude.{ℕ, ◌+◌, ◌-◌, ◌*◌, ◌≤◌, ◌<◌, ◌≡◌, Bool, true, ◌↔◌, length, take, get_or}
use mathlib.Core.List.{List, Memᴰ}
use Rattle.std.proofs.Math.Option.{some}
use Rattle.temporal.specs.Lists.{member, select, NoneTwice}
use Rattle.temporal.specs.Plan.{Plan, Terms, Appearance, start}
use Rattle.temporal.specs.Walk.{run, stations_of, holds, is_walk_to, is_walk}
use Rattle.temporal.specs.Definition3.{starting_points}
use Rattle.temporal.specs.Shortest.{shortest_walks, shortest_walks_to}
use Rattle.temporal.specs.Bytes.{plan_of}
use Rattle.temporal.specs.Cause.{plan_fault}
use Rattle.temporal.specs.Outcome.{ReachTables, reach}
use Rattle.temporal.specs.OutcomePair.{PairValues, PairBuffers, pair}
use Rattle.reach.specs.Answer.{reach_outcome}
use Rattle.pair.specs.Answer.{pair_values, pair_outcome}

-- w passes the test, and no walk is shorter: document 000's shortest walk, and shortest path where the test is "path" (Def. 4)
pub record IsShortest (passes isAWalk : List ℕ → Bool) (w : List ℕ) : Type 0 where
  pub passing : passes w ≡ true
  pub none_shorter : (w' : List ℕ) → isAWalk w' ≡ true → length w ≤ length w'

-- A list l of walks with what is said of it: the hops h and the count c.
pub record ShortestList (passes isAWalk : List ℕ → Bool) (l : List (List ℕ)) (h c : ℕ) : Type 0 where
  -- no member stands in it twice
  pub once : NoneTwice l
  -- a list of positions is in it exactly if it passes and no walk is shorter
  pub members : (w : List ℕ) → Memᴰ w l ↔ IsShortest passes isAWalk w
  -- h is the length of each member, and c their number
  pub lengths : (w : List ℕ) → Memᴰ w l → length w ≡ h
  pub number : c ≡ length l
  -- exactly where there is no walk at all: 65535, and 0
  pub no_hops : (h ≡ 65535) ↔ ((w : List ℕ) → isAWalk w ≡ true → ⊥)
  pub no_count : (c ≡ 0) ↔ ((w : List ℕ) → isAWalk w ≡ true → ⊥)

-- the list of a station: the strict temporal walks from s to v, none longer than another
abbrev pub StationList : Plan → ℕ → ℕ → ℕ → ℕ → Type 0
StationList p s v h c = ShortestList (is_walk_to p s v) (is_walk_to p s v) (shortest_walks_to p s v) h c

-- the list of an appearance: the strict temporal walks from s to (v, u), none longer than another
abbrev pub AppearanceList : Plan → ℕ → ℕ → ℕ → ℕ → ℕ → Type 0
AppearanceList p s v u h c = ShortestList (is_walk p s v u) (is_walk p s v u) (shortest_walks p s v u) h c

-- Whether station v stands strictly between the ends of the walk w from s: it is reached by a leg other than the last.
unfoldable pub is_between : Plan → ℕ → ℕ → List ℕ → Bool
is_between p s v w = holds (run p (start s) w) (λ l. member v (take (length l - 1) (stations_of l)))

-- what the four tables of reach hold
pub record ReachTold (p : Plan) (s : ℕ) (x : ReachTables) : Type 0 where
  pub station :
      (v : ℕ) → v < p.stations → StationList p s v (get_or x.station_hops v 0) (get_or x.station_counts v 0)
  -- place v (T + 1) + u
  pub appearance :
      (v u : ℕ) → v < p.stations → u < p.slots + 1 →
      AppearanceList p s v u (get_or x.hops_table (v * (p.slots + 1) + u) 0) (get_or x.count_table (v * (p.slots + 1) + u) 0)
  -- the source has 0 and 1, and so has the start, its appearance in slot 0
  pub source : (get_or x.station_hops s 0 ≡ 0) × (get_or x.station_counts s 0 ≡ 1)
  pub at_start : (get_or x.hops_table (s * (p.slots + 1)) 0 ≡ 0) × (get_or x.count_table (s * (p.slots + 1)) 0 ≡ 1)

-- what pair answers, and what its through table holds: how many members have the station strictly between their ends
pub record PairTold (p : Plan) (s z : ℕ) (x : PairValues) (b : PairBuffers) : Type 0 where
  pub list : StationList p s z x.hops x.count
  pub between :
      (v : ℕ) → v < p.stations → get_or b.through_table v 0 ≡ length (select (is_between p s v) (shortest_walks_to p s z))

-- a walk whose appearances are l comes back neither to its source s, nor to its destination z before its end
pub record NoReturn (s z : ℕ) (l : List Appearance) : Type 0 where
  pub to_source : Memᴰ s (stations_of l) → ⊥
  pub to_destination : Memᴰ z (starting_points (start s) l) → ⊥

-- Demand 2, for every call of reach and of pair that its contract allows and that is not refused.
pub record Demand2 : Type 0 where
  pub of_reach :
      (bs : List ℕ) (n t : ℕ) (terms : Terms) (s : ℕ) (old new : ReachTables) (r : Result (Unit {0}) Fault) →
      reach_outcome r new ≡ reach bs n t terms s old → answer_number r ≡ 0 → ReachTold (plan_of bs n t terms) s new
  pub of_pair :
      (bs : List ℕ) (n t : ℕ) (terms : Terms) (s z : ℕ) (old new : PairBuffers) (r : Result PairCount Fault) →
      pair_outcome r new ≡ pair bs n t terms s z old → answer_number r ≡ 0 → PairTold (plan_of bs n t terms) s z (pair_values r) new
  -- a member of a station's list visits its ends once; between them it may visit a station more often
  pub ends_once :
      (bs : List ℕ) (n t : ℕ) (terms : Terms) (s z : ℕ) → plan_fault bs n t ≡ 0 → (w : List ℕ) →
      Memᴰ w (shortest_walks_to (plan_of bs n t terms) s z) → (l : List Appearance) → run (plan_of bs n t terms) (start s) w ≡ some l →
      NoReturn s z l
