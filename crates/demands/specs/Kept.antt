-- Document 02's C-21 where nothing goes stale: the shortest walks are the shortest paths, and so are the figures made of them; and that
-- this need not be so otherwise. Definitions only.
-- Assumes nothing.
use Rattle.pair.specs.declared.PairCount.{PairCount}
use Rattle.plan.specs.Fault.{answer_number}
use Rattle.plan.specs.declared.Fault.{Fault}
use Rattle.std.specs.Prelude.{Result}
use Rattle.std.specs.Prelude.{ℕ, ◌-◌, ◌*◌, ◌<◌, ◌≡◌, ◌≢◌, List, map, length, get_or}
use Rattle.temporal.specs.Lists.{below, sum}
use Rattle.temporal.specs.Plan.{Plan, Terms, turning, Keeps}
use Rattle.temporal.specs.Walk.{is_walk_to}
use Rattle.temporal.specs.Definition3.{is_path000}
use Rattle.temporal.specs.Shortest.{shortest_walks_to, shortest_paths, hops, count, through}
use Rattle.temporal.specs.Load.{pairs, load, pairs_by, load_by}
use Rattle.temporal.specs.Bytes.{plan_of}
use Rattle.temporal.specs.Cause.{first, plan_fault, terms_causes}
use Rattle.temporal.specs.Outcome.{ReachTables, reach}
use Rattle.temporal.specs.OutcomePair.{PairBuffers, pair}
use Rattle.temporal.specs.Verdict.{verdict_on}
use Rattle.reach.specs.Answer.{reach_outcome}
use Rattle.pair.specs.Answer.{pair_values, pair_outcome}
use Rattle.demands.specs.Demand2.{ShortestList}

-- the list of a station as document 000 has it: the paths (Def. 3) from s to v, none longer than a strict temporal walk from s to v
abbrev pub PathList : Plan → ℕ → ℕ → ℕ → ℕ → Type 0
PathList p s v h c = ShortestList (is_path000 p s v) (is_walk_to p s v) (shortest_walks_to p s v) h c

-- the same list among paths: the paths from s to v, none longer than another
abbrev pub AmongPaths : Plan → ℕ → ℕ → ℕ → ℕ → Type 0
AmongPaths p s v h c = ShortestList (is_path000 p s v) (is_path000 p s v) (shortest_walks_to p s v) h c

-- What holds of an accepted plan in which nothing goes stale.
pub record KeptFigures (p : Plan) : Type 0 where
  -- the complete list of a pair is the list of its shortest paths, in the same order
  pub lists : (s z : ℕ) → shortest_walks_to p s z ≡ shortest_paths p s z
  pub paths : (s v : ℕ) → PathList p s v (hops (shortest_walks_to p s v)) (count (shortest_walks_to p s v))
  pub among_paths : (s v : ℕ) → AmongPaths p s v (hops (shortest_walks_to p s v)) (count (shortest_walks_to p s v))
  -- the fewest hops over walks are the fewest over paths
  pub fewest : (s z : ℕ) → hops (shortest_walks_to p s z) ≡ hops (shortest_paths p s z)
  -- pairs and loads are those of shortest paths
  pub pairs_of_paths : (v : ℕ) → pairs p v ≡ length (pairs_by p (shortest_paths p) v)
  pub load_of_paths : (v : ℕ) → load p v ≡ load_by p (shortest_paths p) v
  -- and so are verdicts
  pub verdict_of_paths : (s z : ℕ) (entries : List ℕ) → verdict_on (shortest_walks_to p s z) entries ≡ verdict_on (shortest_paths p s z) entries

-- An accepted plan and terms that are allowed, and a pair s, z, for which each of these fails, and C-15 too.
pub record Failing (bs : List ℕ) (n t : ℕ) (terms : Terms) (s z v : ℕ) (entries : List ℕ) : Type 0 where
  pub accepted : plan_fault bs n t ≡ 0
  pub allowed : first (terms_causes terms) ≡ 0
  pub not_lists : shortest_walks_to (plan_of bs n t terms) s z ≢ shortest_paths (plan_of bs n t terms) s z
  pub not_paths :
      PathList (plan_of bs n t terms) s z (hops (shortest_walks_to (plan_of bs n t terms) s z))
      (count (shortest_walks_to (plan_of bs n t terms) s z)) → ⊥
  pub not_among_paths :
      AmongPaths (plan_of bs n t terms) s z (hops (shortest_walks_to (plan_of bs n t terms) s z))
      (count (shortest_walks_to (plan_of bs n t terms) s z)) → ⊥
  pub not_fewest : hops (shortest_walks_to (plan_of bs n t terms) s z) ≢ hops (shortest_paths (plan_of bs n t terms) s z)
  pub not_pairs : pairs (plan_of bs n t terms) v ≢ length (pairs_by (plan_of bs n t terms) (shortest_paths (plan_of bs n t terms)) v)
  pub not_load : load (plan_of bs n t terms) v ≢ load_by (plan_of bs n t terms) (shortest_paths (plan_of bs n t terms)) v
  pub not_verdict :
      verdict_on (shortest_walks_to (plan_of bs n t terms) s z) entries ≢ verdict_on (shortest_paths (plan_of bs n t terms) s z) entries
  pub not_accounted :
      sum (map (through (plan_of bs n t terms) s z) (below n)) ≢
      count (shortest_walks_to (plan_of bs n t terms) s z) * (hops (shortest_walks_to (plan_of bs n t terms) s z) - 1)

-- C-21 where nothing goes stale.
pub record KeptDemand : Type 0 where
  -- with h = 255 nothing does, whatever the accepted plan
  pub always : (bs : List ℕ) (n t g : ℕ) → plan_fault bs n t ≡ 0 → Keeps t (turning g)
  pub figures : (bs : List ℕ) (n t : ℕ) (terms : Terms) → plan_fault bs n t ≡ 0 → Keeps t terms → KeptFigures (plan_of bs n t terms)
  -- the tables of reach's stations, and what pair answers, of every call that is not refused
  pub of_reach :
      (bs : List ℕ) (n t : ℕ) (terms : Terms) (s : ℕ) (old new : ReachTables) (r : Result (Unit {0}) Fault) → Keeps t terms →
      reach_outcome r new ≡ reach bs n t terms s old → answer_number r ≡ 0 → (v : ℕ) → v < n →
      PathList (plan_of bs n t terms) s v (get_or new.station_hops v 0) (get_or new.station_counts v 0)
  pub of_pair :
      (bs : List ℕ) (n t : ℕ) (terms : Terms) (s z : ℕ) (old new : PairBuffers) (r : Result PairCount Fault) → Keeps t terms →
      pair_outcome r new ≡ pair bs n t terms s z old → answer_number r ≡ 0 →
      PathList (plan_of bs n t terms) s z (pair_values r).hops (pair_values r).count
  -- the hypothesis is needed
  pub needed : (bs : List ℕ) × (n : ℕ) × (t : ℕ) × (terms : Terms) × (s : ℕ) × (z : ℕ) × (v : ℕ) × (entries : List ℕ) ×
      Failing bs n t terms s z v entries
