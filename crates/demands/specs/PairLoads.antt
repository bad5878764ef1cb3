-- What demand 3 says of pair, of loads and of busiest. Definitions only.
-- Assumes nothing.
use Rattle.pair.specs.declared.PairCount.{PairCount}
use Rattle.plan.specs.Fault.{answer_number}
use Rattle.plan.specs.declared.Fault.{Fault}
use Rattle.std.specs.Prelude.{Result}
use Rattle.std.specs.Prelude.{ℕ, ◌<◌, ◌≡◌, List, length, get_or}
use Rattle.temporal.specs.Plan.{Terms}
use Rattle.temporal.specs.Lists.{select}
use Rattle.temporal.specs.Walk.{is_interior}
use Rattle.temporal.specs.Shortest.{hops}
use Rattle.temporal.specs.Load.{pairs, load, WithinExactSum, Busiest}
use Rattle.temporal.specs.Bytes.{plan_of}
use Rattle.temporal.specs.OutcomePair.{PairBuffers, pair, LoadBuffers, loads, busiest}
use Rattle.temporal.specs.FirstNext.{Question, list_of}
use Rattle.pair.specs.Answer.{pair_values, pair_outcome}
use Rattle.loads.specs.Answer.{loads_outcome, busiest_station, busiest_outcome}

-- Pair accepted the question: its ensures holds of the answer and the buffers before and after, and the number is 0.
pub record PairAccepts (q : Question) (old : PairBuffers) (r : Result PairCount Fault) (new : PairBuffers) : Type 0 where
  pub contract : pair_outcome r new ≡ pair q.bytes q.stations q.slots q.terms q.source q.destination old
  pub accepted : answer_number r ≡ 0

-- Ways of the pair are as many as pair's count, and as many of them have v inside as pair's through count of v.
pub record CountedByPair (q : Question) (ways : List (List ℕ)) (r : Result PairCount Fault) (new : PairBuffers) : Type 0 where
  pub count : length ways ≡ (pair_values r).count
  pub through :
      (v : ℕ) → v < q.stations →
      length (select (is_interior (plan_of q.bytes q.stations q.slots q.terms) q.source q.destination v) ways) ≡
      get_or new.through_table v 0

-- Pair: it counts the complete list, and its hops are that list's.
abbrev pub PairDemand : Type 0
PairDemand =
    (q : Question) (old : PairBuffers) (r : Result PairCount Fault) (new : PairBuffers) → PairAccepts q old r new →
    CountedByPair q (list_of q) r new × ((pair_values r).hops ≡ hops (list_of q))

-- Loads accepted the plan: its ensures holds of the answer and the buffers before and after, and the number is 0.
pub record LoadsAccepts (bs : List ℕ) (n t : ℕ) (terms : Terms) (old : LoadBuffers) (r : Result (Unit {0}) Fault) (new : LoadBuffers) : Type 0 where
  pub contract : loads_outcome r new ≡ loads bs n t terms old
  pub accepted : answer_number r ≡ 0

-- what accepted loads leaves at a station: its pairs, and its load, which is within document 01's distance of the exact sum
pub record Loaded (bs : List ℕ) (n t : ℕ) (terms : Terms) (new : LoadBuffers) (v : ℕ) : Type 0 where
  pub pairs_of : get_or new.pairs_table v 0 ≡ pairs (plan_of bs n t terms) v
  pub load_of : get_or new.load_table v 0 ≡ load (plan_of bs n t terms) v
  pub near : WithinExactSum (plan_of bs n t terms) v

-- Loads: each station's entries are its pairs and its load.
abbrev pub LoadsDemand : Type 0
LoadsDemand =
    (bs : List ℕ) (n t : ℕ) (terms : Terms) (old : LoadBuffers) (r : Result (Unit {0}) Fault) (new : LoadBuffers) →
    LoadsAccepts bs n t terms old r new →
    (v : ℕ) → v < n → Loaded bs n t terms new v

-- Busiest: where its ensures holds and the number is 0, the station is one of the n, no other's load exceeds its load, and every
-- lower-numbered one's is smaller.
abbrev pub BusiestDemand : Type 0
BusiestDemand =
    (bs : List ℕ) (n t : ℕ) (terms : Terms) (old new : List ℕ) (r : Result ℕ Fault) → busiest_outcome r new ≡ busiest bs n t terms old →
    answer_number r ≡ 0 → Busiest (plan_of bs n t terms) (busiest_station r)
