-- Demand 3, whole. It is about the operations themselves: the WayContract by which a trace's calls are judged is what first way
-- and next way ensure (crates/listing), and PairAccepts and LoadsAccepts hold what pair and loads ensure. Definitions only.
-- Assumes nothing.
use Rattle.pair.specs.declared.PairCount.{PairCount}
use Rattle.plan.specs.declared.Fault.{Fault}
use Rattle.std.specs.Prelude.{Result}
use Rattle.std.specs.Prelude.{ℕ, ◌≡◌, Bool, true, false, ◌⊎◌, ◌↔◌, length, take}
use mathlib.Core.List.{List, [], ◌∷◌, Memᴰ}
use Rattle.temporal.specs.Lists.{any}
use Rattle.temporal.specs.Shortest.{hops}
use Rattle.temporal.specs.OutcomePair.{PairBuffers}
use Rattle.temporal.specs.Cursor.{Reply, path, no_path, last_path, refused, next_way}
use Rattle.temporal.specs.FirstNext.{Question, list_of, WayContract}
use Rattle.temporal.specs.Trace.{cause_of, Event, called, wrote, Asked, EveryTraceFollows}
use Rattle.temporal.specs.TraceGiven.{given, FromFirstWay, EveryTraceGives}
use Rattle.demands.specs.Listing.{EveryListingTraced}
use Rattle.demands.specs.PairLoads.{PairAccepts, CountedByPair, PairDemand, LoadsDemand, BusiestDemand}

-- whether an event says that there is no further way: "none" or "last"
unfoldable pub says_end : Event → Bool
says_end (called c (path h) after) = false
says_end (called c no_path after) = true
says_end (called c last_path after) = true
says_end (called c (refused k) after) = false
says_end (wrote behind) = false

-- From an accepted first way to "last", or to "none", with no other accepted first way behind it, a trace gave as many ways
-- as pair counts, and as many through each station as its through count.
abbrev pub EveryWayAccounted : Type 0
EveryWayAccounted =
    (q : Question) → Asked q → (e : Event) (es : List Event) → FromFirstWay q e es → any says_end (e ∷ es) ≡ true →
    (old : PairBuffers) (r : Result PairCount Fault) (new : PairBuffers) → PairAccepts q old r new →
    CountedByPair q (given (e ∷ es)) r new

-- Document 01's cause 10: the first entries of the way buffer, as many as the pair has hops, are no shortest walk of the pair,
-- or it has none.
abbrev pub NotOffered : Question → List ℕ → Type 0
NotOffered q way = (Memᴰ (take (hops (list_of q)) way) (list_of q) → ⊥) ⊎ (list_of q ≡ [])

-- Next way answers 10 exactly where this is so and no other cause of refusal holds.
abbrev pub TenWhereNotOffered : Type 0
TenWhereNotOffered =
    (q : Question) (way work : List ℕ) (r : Reply) (wayAfter work_after : List ℕ) →
    WayContract next_way q way work r wayAfter work_after →
    (r ≡ refused 10) ↔
    ((cause_of (record { operation = next_way; question = q; lent = length way; work = length work }) ≡ 0) ×
    NotOffered q way)

-- Demand 3.
pub record Demand3 : Type 0 where
  -- each answer of a trace, and the whole buffer after each call, are the cursor's
  pub follows : EveryTraceFollows
  -- the ways given from an accepted first way until just before the next are the first ones of the list, none twice
  pub gives : EveryTraceGives
  -- where they came to the end, they are as many as pair counts
  pub accounted : EveryWayAccounted
  -- pair and loads count what the definitions say, and busiest compares the loads
  pub pair : PairDemand
  pub loads : LoadsDemand
  pub busiest : BusiestDemand
  -- there are traces: every listing, with any buffers, has one
  pub traced : EveryListingTraced
  -- 10 is what document 01 says
  pub ten : TenWhereNotOffered
