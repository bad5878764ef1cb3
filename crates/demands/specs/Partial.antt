-- Document 02's C-18: what holds of partial loads, beside the loads and beside those with more sources. Definitions only.
-- Assumes nothing.
use Rattle.plan.specs.Fault.{answer_number}
use Rattle.plan.specs.declared.Fault.{Fault}
use Rattle.std.specs.Prelude.{Result}
use Rattle.std.specs.Prelude.{ℕ, ◌+◌, ◌≤◌, ◌<◌, ◌≡◌, ◌≢◌, List, get_or}
use Rattle.temporal.specs.Plan.{Terms}
use Rattle.temporal.specs.Load.{partial_pairs, partial_load, rest_of_pairs, rest_of_load}
use Rattle.temporal.specs.Bytes.{plan_of}
use Rattle.temporal.specs.OutcomePair.{LoadBuffers, partial_loads, loads}
use Rattle.loads.specs.Answer.{loads_outcome}
use Rattle.demands.specs.PairLoads.{LoadsAccepts}

-- Partial loads accepted the call: its ensures holds of the answer and the buffers before and after, and the number is 0.
pub record PartialAccepts (bs : List ℕ) (n t : ℕ) (terms : Terms) (k : ℕ) (old : LoadBuffers) (r : Result (Unit {0}) Fault) (new : LoadBuffers)
    : Type 0 where
  pub contract : loads_outcome r new ≡ partial_loads bs n t terms k old
  pub accepted : answer_number r ≡ 0

-- the entries of station v: the pairs and the load over the sources below k
pub record PartlyLoaded (bs : List ℕ) (n t : ℕ) (terms : Terms) (k : ℕ) (new : LoadBuffers) (v : ℕ) : Type 0 where
  pub pairs_of : get_or new.pairs_table v 0 ≡ partial_pairs (plan_of bs n t terms) k v
  pub load_of : get_or new.load_table v 0 ≡ partial_load (plan_of bs n t terms) k v

-- A figure x that is still open by a rest, and a later one y that is open by another: y is not lower, and the span from y to y and
-- its rest lies within that of x.
pub record SpanWithin (x rest y rest' : ℕ) : Type 0 where
  pub not_lower : x ≤ y
  pub not_wider : y + rest' ≤ x + rest

-- the tables of a call with k sources, and those of one with j sources, at station v
pub record Narrowed (n k j : ℕ) (new new' : LoadBuffers) (v : ℕ) : Type 0 where
  pub pairs_span : SpanWithin (get_or new.pairs_table v 0) (rest_of_pairs n k) (get_or new'.pairs_table v 0) (rest_of_pairs n j)
  pub load_span : SpanWithin (get_or new.load_table v 0) (rest_of_load n k) (get_or new'.load_table v 0) (rest_of_load n j)

-- the tables of a call with k sources, and those of the loads, at station v: the loads are not lower, and higher by at most the rest
pub record Bounded (n k : ℕ) (new full : LoadBuffers) (v : ℕ) : Type 0 where
  pub pairs_least : get_or new.pairs_table v 0 ≤ get_or full.pairs_table v 0
  pub pairs_most : get_or full.pairs_table v 0 ≤ get_or new.pairs_table v 0 + rest_of_pairs n k
  pub load_least : get_or new.load_table v 0 ≤ get_or full.load_table v 0
  pub load_most : get_or full.load_table v 0 ≤ get_or new.load_table v 0 + rest_of_load n k

-- C-18, for every call that the contracts allow.
pub record PartialDemand : Type 0 where
  -- an accepted call leaves the pairs and the loads over the sources below k
  pub told :
      (bs : List ℕ) (n t : ℕ) (terms : Terms) (k : ℕ) (old : LoadBuffers) (r : Result (Unit {0}) Fault) (new : LoadBuffers) →
      PartialAccepts bs n t terms k old r new → (v : ℕ) → v < n → PartlyLoaded bs n t terms k new v
  -- where the loads are not refused, each is at least the partial one and exceeds it by at most (n - k) × (n - 1) × 2^32; the pairs
  -- by at most (n - k) × (n - 1)
  pub bounded :
      (bs : List ℕ) (n t : ℕ) (terms : Terms) (k : ℕ) (old : LoadBuffers) (r : Result (Unit {0}) Fault) (new : LoadBuffers)
      (old' : LoadBuffers) (r' : Result (Unit {0}) Fault) (full : LoadBuffers) →
      PartialAccepts bs n t terms k old r new → LoadsAccepts bs n t terms old' r' full →
      (v : ℕ) → v < n → Bounded n k new full v
  -- a larger number of sources that is accepted too lowers no figure and widens no span
  pub narrowed :
      (bs : List ℕ) (n t : ℕ) (terms : Terms) (k j : ℕ) (old : LoadBuffers) (r : Result (Unit {0}) Fault) (new : LoadBuffers)
      (old' : LoadBuffers) (r' : Result (Unit {0}) Fault) (new' : LoadBuffers) → k ≤ j →
      PartialAccepts bs n t terms k old r new → PartialAccepts bs n t terms j old' r' new' →
      (v : ℕ) → v < n → Narrowed n k j new new' v
  -- with k = n the answer and all buffers are those of the loads
  pub whole :
      (bs : List ℕ) (n t : ℕ) (terms : Terms) (old : LoadBuffers) (r : Result (Unit {0}) Fault) (new : LoadBuffers) (r' : Result (Unit {0}) Fault)
      (new' : LoadBuffers) →
      loads_outcome r new ≡ partial_loads bs n t terms n old → loads_outcome r' new' ≡ loads bs n t terms old →
      loads_outcome r new ≡ loads_outcome r' new'
  -- with k = 0 there is no 9, and an accepted call leaves zeros
  pub no_source :
      (bs : List ℕ) (n t : ℕ) (terms : Terms) (old : LoadBuffers) (r : Result (Unit {0}) Fault) (new : LoadBuffers) →
      loads_outcome r new ≡ partial_loads bs n t terms 0 old → answer_number r ≢ 9
  pub no_source_zeros :
      (bs : List ℕ) (n t : ℕ) (terms : Terms) (old : LoadBuffers) (r : Result (Unit {0}) Fault) (new : LoadBuffers) →
      PartialAccepts bs n t terms 0 old r new → (v : ℕ) → v < n →
      (get_or new.pairs_table v 0 ≡ 0) × (get_or new.load_table v 0 ≡ 0)
