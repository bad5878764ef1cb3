-- Document 02's C-14: what holds of the slot, the hops, the count and the through counts of the shortest foremost paths of a pair.
-- Definitions only.
-- Assumes nothing.
use Rattle.foremost.specs.declared.ForemostCount.{ForemostCount}
use Rattle.plan.specs.Fault.{answer_number}
use Rattle.plan.specs.declared.Fault.{Fault}
use Rattle.std.specs.Prelude.{Result}
use Rattle.std.specs.Prelude.{ℕ, ◌≤◌, ◌<◌, ◌≡◌, Bool, true, ◌&&◌, ◌↔◌, ◌≢◌, length, get_or}
use mathlib.Core.List.{List, Memᴰ}
use Rattle.std.proofs.Math.Option.{some}
use Rattle.temporal.specs.Lists.{select, Rising}
use Rattle.temporal.specs.Plan.{Plan, Appearance, start, turning}
use Rattle.temporal.specs.Walk.{run, last_or, is_walk_to, is_walk}
use Rattle.temporal.specs.Definition3.{is_path000}
use Rattle.temporal.specs.Shortest.{shortest_walks_to, hops}
use Rattle.temporal.specs.Foremost.{foremost_paths}
use Rattle.temporal.specs.Bytes.{plan_of}
use Rattle.temporal.specs.OutcomePair.{PairBuffers}
use Rattle.temporal.specs.OutcomeForemost.{ForemostValues, foremost}
use Rattle.foremost.specs.Answer.{foremost_values, foremost_outcome}
use Rattle.demands.specs.Demand2.{ShortestList, is_between}

-- whether w is document 000's path (Def. 3) from s to z that arrives in slot u
abbrev pub arrives_in : Plan → ℕ → ℕ → ℕ → List ℕ → Bool
arrives_in p s z u w = is_path000 p s z w && is_walk p s z u w

-- What an accepted call says of its pair: x the slot, the hops and the count, b the buffers at exit.
pub record ForemostTold (p : Plan) (s z : ℕ) (x : ForemostValues) (b : PairBuffers) : Type 0 where
  -- every walk from s to z arrives in the slot or later, and one arrives in it; 65535 exactly where there is no walk
  pub earliest :
      (w : List ℕ) (l : List Appearance) → run p (start s) w ≡ some l → (last_or (start s) l).station ≡ z →
      x.slot ≤ (last_or (start s) l).slot
  pub reached : x.slot ≢ 65535 → (w : List ℕ) × (is_walk p s z x.slot w ≡ true)
  pub no_slot : (x.slot ≡ 65535) ↔ ((w : List ℕ) → is_walk_to p s z w ≡ true → ⊥)
  -- document 000's Definition 11: the list has the paths that arrive in the slot and than which no walk that does is shorter, each
  -- once and in order, and hops and count are the list's
  pub list : ShortestList (arrives_in p s z x.slot) (is_walk p s z x.slot) (foremost_paths p s z) x.hops x.count
  pub rising : Rising (foremost_paths p s z)
  -- a through count is the number of members that have the station strictly between their ends
  pub between :
      (v : ℕ) → v < p.stations → get_or b.through_table v 0 ≡ length (select (is_between p s v) (foremost_paths p s z))
  -- the hops are never below the pair's, and where they are the pair's every member is in the pair's complete list
  pub at_least : hops (shortest_walks_to p s z) ≤ x.hops
  pub among : x.hops ≡ hops (shortest_walks_to p s z) → (w : List ℕ) → Memᴰ w (foremost_paths p s z) → Memᴰ w (shortest_walks_to p s z)

-- C-14, for every call that the operation's contract allows and that is not refused, from one station to another.
abbrev pub ForemostDemand : Type 0
ForemostDemand =
    (bs : List ℕ) (n t g s z : ℕ) (old new : PairBuffers) (r : Result ForemostCount Fault) →
    foremost_outcome r new ≡ foremost bs n t (turning g) s z old → answer_number r ≡ 0 →
    ForemostTold (plan_of bs n t (turning g)) s z (foremost_values r) new
