-- Document 02's C-23: what holds of the changes of load if one contact is struck out. Definitions only.
-- Assumes nothing.
use Rattle.plan.specs.Fault.{answer_number}
use Rattle.plan.specs.declared.Fault.{Fault}
use Rattle.std.specs.Prelude.{Result}
use Rattle.std.specs.Prelude.{ℕ, ◌*◌, ◌^◌, ◌≤◌, ◌<◌, ◌≡◌, ◌||◌, List, ltb, pos, ◌-ℤ◌, length, get_or}
use Rattle.temporal.specs.Plan.{Terms}
use Rattle.temporal.specs.Bytes.{plan_of}
use Rattle.temporal.specs.Cause.{plan_fault}
use Rattle.temporal.specs.Shortest.{shortest_walks_to, hops, count}
use Rattle.temporal.specs.Struck.{struck_out, lacking_record, uses, pairs_using, change, magnitude}
use Rattle.temporal.specs.OutcomePair.{LoadBuffers}
use Rattle.temporal.specs.OutcomeStruck.{StruckBuffers, struck}
use Rattle.struck.specs.Answer.{struck_pairs, struck_outcome}
use Rattle.demands.specs.PairLoads.{LoadsAccepts}

-- The operation accepted the call: its ensures holds of the answer and the buffers before and after, and the number is 0.
pub record StruckAccepts (bs : List ℕ) (n t : ℕ) (terms : Terms) (i : ℕ) (old : StruckBuffers) (r : Result ℕ Fault) (new : StruckBuffers)
    : Type 0 where
  pub contract : struck_outcome r new ≡ struck bs n t terms i old
  pub accepted : answer_number r ≡ 0

-- what an accepted call leaves: the number of pairs that use the contact, and each station's change of load
pub record StruckTold (bs : List ℕ) (n t : ℕ) (terms : Terms) (i : ℕ) (r : Result ℕ Fault) (new : StruckBuffers) : Type 0 where
  pub pairs_of : struck_pairs r ≡ length (pairs_using (plan_of bs n t terms) i)
  pub change_of : (v : ℕ) → v < n → get_or new.change_table v (pos 0) ≡ change (plan_of bs n t terms) i v

-- C-23, for every call that the contracts allow.
pub record StruckDemand : Type 0 where
  pub told :
      (bs : List ℕ) (n t : ℕ) (terms : Terms) (i : ℕ) (old : StruckBuffers) (r : Result ℕ Fault) (new : StruckBuffers) →
      StruckAccepts bs n t terms i old r new → StruckTold bs n t terms i r new
  -- no change is larger than the number of pairs × 2^32, up or down
  pub bounded :
      (bs : List ℕ) (n t : ℕ) (terms : Terms) (i : ℕ) (old : StruckBuffers) (r : Result ℕ Fault) (new : StruckBuffers) →
      StruckAccepts bs n t terms i old r new → (v : ℕ) → v < n →
      magnitude (get_or new.change_table v (pos 0)) ≤ struck_pairs r * 2 ^ 32
  -- with 0 pairs every change is 0
  pub unchanged :
      (bs : List ℕ) (n t : ℕ) (terms : Terms) (i : ℕ) (old : StruckBuffers) (r : Result ℕ Fault) (new : StruckBuffers) →
      StruckAccepts bs n t terms i old r new → struck_pairs r ≡ 0 → (v : ℕ) → v < n → get_or new.change_table v (pos 0) ≡ pos 0
  -- a pair uses the contact exactly if without it the pair has more hops, 65535 where it has no walk, or fewer walks
  pub exactly :
      (bs : List ℕ) (n t : ℕ) (terms : Terms) → plan_fault bs n t ≡ 0 → (i s z : ℕ) →
      uses (plan_of bs n t terms) i s z ≡
      (ltb (hops (shortest_walks_to (plan_of bs n t terms) s z)) (hops (shortest_walks_to (struck_out (plan_of bs n t terms) i) s z)) ||
      ltb (count (shortest_walks_to (struck_out (plan_of bs n t terms) i) s z)) (count (shortest_walks_to (plan_of bs n t terms) s z)))
  -- the plan without the record is the plan whose bytes lack those six, and it is accepted
  pub shorter : (bs : List ℕ) (n t : ℕ) (terms : Terms) (i : ℕ) → plan_of (lacking_record bs i) n t terms ≡ struck_out (plan_of bs n t terms) i
  pub shorter_accepted : (bs : List ℕ) (n t : ℕ) → plan_fault bs n t ≡ 0 → (i : ℕ) → plan_fault (lacking_record bs i) n t ≡ 0
  -- so a change is what loads gives for the bytes without the six less what it gives for all of them
  pub by_loads :
      (bs : List ℕ) (n t : ℕ) (terms : Terms) (i : ℕ) (old : StruckBuffers) (r : Result ℕ Fault) (new : StruckBuffers)
      (old-less : LoadBuffers) (r-less : Result (Unit {0}) Fault) (less : LoadBuffers) (old-full : LoadBuffers) (r-full : Result (Unit {0}) Fault) (full : LoadBuffers) →
      StruckAccepts bs n t terms i old r new → LoadsAccepts (lacking_record bs i) n t terms old-less r-less less →
      LoadsAccepts bs n t terms old-full r-full full → (v : ℕ) → v < n →
      get_or new.change_table v (pos 0) ≡ pos (get_or less.load_table v 0) -ℤ pos (get_or full.load_table v 0)
