-- Document 02's C-12: what holds of the number of shortest walks that have a member of a set inside. Definitions only.
-- Assumes nothing.
use Rattle.plan.specs.Fault.{answer_number}
use Rattle.plan.specs.declared.Fault.{Fault}
use Rattle.std.specs.Prelude.{Result}
use Rattle.std.specs.Prelude.{ℕ, ◌≤◌, ◌<◌, ◌≡◌, true, false, cond, List, map, eqb}
use Rattle.temporal.specs.Plan.{Terms}
use Rattle.temporal.specs.Lists.{below, sum}
use Rattle.temporal.specs.Shortest.{shortest_walks_to, hops, count, through}
use Rattle.temporal.specs.Set.{touched}
use Rattle.temporal.specs.Bytes.{plan_of}
use Rattle.temporal.specs.OutcomeSet.{is_member, through_set}
use Rattle.sets.specs.Answer.{set_count, set_outcome}

-- The operation accepted the call: its ensures holds of the answer and the work area before and after, and the number is 0.
pub record SetAccepts (bs : List ℕ) (n t : ℕ) (terms : Terms) (s z : ℕ) (set old : List ℕ) (r : Result ℕ Fault) (new : List ℕ) : Type 0 where
  pub contract : set_outcome r new ≡ through_set bs n t terms s z set old
  pub accepted : answer_number r ≡ 0

-- What an accepted call says of its set.
pub record SetTold (bs : List ℕ) (n t : ℕ) (terms : Terms) (s z : ℕ) (set : List ℕ) (c : ℕ) : Type 0 where
  -- how many members of the complete list have some member of the set inside
  pub counted : c ≡ touched (plan_of bs n t terms) s z (is_member set)
  -- the empty set: 0
  pub of_none : ((v : ℕ) → v < n → is_member set v ≡ false) → c ≡ 0
  -- a set of one station: its through count
  pub of_one : (v : ℕ) → v < n → ((u : ℕ) → u < n → is_member set u ≡ eqb v u) → c ≡ through (plan_of bs n t terms) s z v
  -- all stations: the count, where the pair has more than one hop
  pub of_all :
      ((v : ℕ) → v < n → is_member set v ≡ true) → 1 < hops (shortest_walks_to (plan_of bs n t terms) s z) →
      c ≡ count (shortest_walks_to (plan_of bs n t terms) s z)
  -- at least the through count of each member, and at most their sum
  pub at_least : (v : ℕ) → v < n → is_member set v ≡ true → through (plan_of bs n t terms) s z v ≤ c
  pub at_most : c ≤ sum (map (λ v. cond (is_member set v) (through (plan_of bs n t terms) s z v) 0) (below n))
  -- a larger set never has less
  pub larger :
      (set' : List ℕ) → ((v : ℕ) → v < n → is_member set v ≡ true → is_member set' v ≡ true) →
      c ≤ touched (plan_of bs n t terms) s z (is_member set')

-- C-12, for every accepted call.
abbrev pub SetDemand : Type 0
SetDemand =
    (bs : List ℕ) (n t : ℕ) (terms : Terms) (s z : ℕ) (set old : List ℕ) (r : Result ℕ Fault) (new : List ℕ) → SetAccepts bs n t terms s z set old r new →
    SetTold bs n t terms s z set (set_count r)
