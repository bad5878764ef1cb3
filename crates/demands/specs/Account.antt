-- Document 02's C-15: what the through counts of a pair add up to. Definitions only.
-- Assumes nothing.
use Rattle.foremost.specs.declared.ForemostCount.{ForemostCount}
use Rattle.pair.specs.declared.PairCount.{PairCount}
use Rattle.plan.specs.Fault.{answer_number}
use Rattle.plan.specs.declared.Fault.{Fault}
use Rattle.std.specs.Prelude.{Result}
use Rattle.std.specs.Prelude.{ℕ, ◌-◌, ◌*◌, ◌≡◌, ◌≢◌, take}
use mathlib.Core.List.{List, map, Memᴰ}
use Rattle.temporal.specs.Lists.{below, sum}
use Rattle.temporal.specs.Plan.{Plan, Terms, turning, Keeps}
use Rattle.temporal.specs.Walk.{HasInside}
use Rattle.temporal.specs.Shortest.{shortest_walks_to, hops, count, through_in}
use Rattle.temporal.specs.Foremost.{foremost_paths}
use Rattle.temporal.specs.Bytes.{plan_of}
use Rattle.temporal.specs.Cause.{plan_fault}
use Rattle.temporal.specs.OutcomePair.{PairBuffers, pair}
use Rattle.temporal.specs.OutcomeForemost.{foremost}
use Rattle.pair.specs.Answer.{pair_values, pair_outcome}
use Rattle.foremost.specs.Answer.{foremost_values, foremost_outcome}

-- What holds of a list of paths from s to z with equally many hops.
pub record HopsAccounted (p : Plan) (s z : ℕ) (l : List (List ℕ)) : Type 0 where
  -- each of them has exactly hops - 1 stations inside, all different
  pub inside : (w : List ℕ) → Memᴰ w l → HasInside p s z w (hops l - 1)
  -- the through counts of all stations add up to count × (hops - 1)
  pub total : sum (map (through_in p s z l) (below p.stations)) ≡ count l * (hops l - 1)

-- C-15. Where there is no path it holds too: the count is 0, and so is every through count.
pub record AccountDemand : Type 0 where
  -- the definitions, for two different stations of an accepted plan: the complete list, where nothing goes stale, and the shortest
  -- foremost paths (C-14)
  pub of_shortest :
      (bs : List ℕ) (n t : ℕ) (terms : Terms) (s z : ℕ) → Keeps t terms → plan_fault bs n t ≡ 0 → s ≢ z →
      HopsAccounted (plan_of bs n t terms) s z (shortest_walks_to (plan_of bs n t terms) s z)
  pub of_shortest_foremost :
      (bs : List ℕ) (n t g s z : ℕ) → plan_fault bs n t ≡ 0 → s ≢ z →
      HopsAccounted (plan_of bs n t (turning g)) s z (foremost_paths (plan_of bs n t (turning g)) s z)
  -- the operations, for every call that the contract allows and that is not refused: the first n entries of the through table at
  -- exit, and the count and the hops that are answered
  pub of_pair :
      (bs : List ℕ) (n t : ℕ) (terms : Terms) (s z : ℕ) (old new : PairBuffers) (r : Result PairCount Fault) → Keeps t terms →
      pair_outcome r new ≡ pair bs n t terms s z old → answer_number r ≡ 0 →
      sum (take n new.through_table) ≡ (pair_values r).count * ((pair_values r).hops - 1)
  pub of_foremost :
      (bs : List ℕ) (n t g s z : ℕ) (old new : PairBuffers) (r : Result ForemostCount Fault) →
      foremost_outcome r new ≡ foremost bs n t (turning g) s z old → answer_number r ≡ 0 →
      sum (take n new.through_table) ≡ (foremost_values r).count * ((foremost_values r).hops - 1)
