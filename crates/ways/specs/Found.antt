-- What the functions that list walks answer, and what they ask. Definitions only.
-- Assumes nothing.
use Rattle.std.specs.Prelude.{ℕ, zero, suc, ◌+◌, ◌-◌, ◌*◌, ◌<◌, ◌≤◌, ◌≡◌, Bool, true, false, cond, List, [], ltb, eqb, length, get_or, set, take, Some, None}
use Rattle.std.specs.Prelude.{Option as Answer}
use Rattle.std.proofs.Math.Option.{Option, none, some, bind}
use Rattle.temporal.specs.Plan.{Plan, Terms, units, Appearance, start}
use Rattle.temporal.specs.Walk.{step, holds}
use Rattle.temporal.specs.Shortest.{shortest_walks_to, hops}
use Rattle.temporal.specs.Bytes.{records, plan_of}
use Rattle.temporal.specs.Cause.{plan_fault}
use Rattle.temporal.specs.Outcome.{over}
use Rattle.temporal.specs.Cursor.{index_in}
use Rattle.ways.specs.declared.Pair.{Pair}
use Rattle.ways.specs.declared.Spot.{Spot}
use Rattle.ways.specs.Home.{Table}
use Rattle.ways.specs.Prefix.{end_after, completes}

-- the appearance that a struct of the code holds
abbrev pub spot_of : Spot → Appearance
spot_of x = record { station = x.station; slot = x.slot }

-- where a walk ends, or none
unfoldable pub end_of : Answer Spot → Option Appearance
end_of (Some x) = some (spot_of x)
end_of None = none

-- the position that a search found, or none
unfoldable pub found_of : Answer ℕ → Option ℕ
found_of (Some i) = some i
found_of None = none

-- the terms, the plan, the complete list of the pair, and the test whether positions begin a member of it
abbrev pub terms_in : Pair → Terms
terms_in q = units q.turnaround q.keeping

abbrev pub plan_in : List ℕ → Pair → Plan
plan_in bs q = plan_of bs q.stations q.slots (terms_in q)

abbrev pub list_in : List ℕ → Pair → List (List ℕ)
list_in bs q = shortest_walks_to (plan_in bs q) q.source q.destination

abbrev pub begins : List ℕ → Pair → List ℕ → Bool
begins bs q = completes (plan_in bs q) q.source q.destination q.hops

-- whether position i leads on from x to an appearance whose entry in the table is a given number
unfoldable pub serves_at : Plan → List ℕ → ℕ → Appearance → ℕ → ℕ → Bool
serves_at p l width x need i = holds (step p x i) (λ y. eqb (get_or l (y.station * width + y.slot) 0) need)

-- the first number, of k from i on, that passes a test
unfoldable pub first_from : (ℕ → Bool) → ℕ → ℕ → Option ℕ
first_from f i zero = none
first_from f i (suc k) = let r = first_from f (i + 1) k in cond (f i) (some i) r

-- an answer and a buffer
pub record Placed : Type 0 where
  pub answer : Bool
  pub buffer : List ℕ

-- a position that was found is written at k
unfoldable pub put_at : ℕ → List ℕ → Option ℕ → Placed
put_at k b none = record { answer = false; buffer = b }
put_at k b (some i) = record { answer = true; buffer = set b k i }

-- the first position from a given one on that leads on from the end of the first k entries and has so far to go
unfoldable pub found_at : List ℕ → Pair → List ℕ → ℕ → ℕ → List ℕ → Option ℕ
found_at bs q l k from b =
    bind (end_after (plan_in bs q) (start q.source) (take k b)) (λ x.
    first_from (serves_at (plan_in bs q) l (q.slots + 1) x (q.hops - (k + 1))) from (records bs - from))

-- an accepted plan with a completion table of the destination
pub record Searchable (bs : List ℕ) (q : Pair) (l : List ℕ) : Type 0 where
  pub accepted : plan_fault bs q.stations q.slots ≡ 0
  pub table : Table bs q.stations q.slots (terms_in q) q.destination l

-- besides, leg k of the pair's and a buffer that has an entry for it
pub record Placeable (bs : List ℕ) (q : Pair) (l : List ℕ) (k : ℕ) (b : List ℕ) : Type 0 where
  pub searchable : Searchable bs q l
  pub leg : k < q.hops
  pub entry : k < length b

-- A pair with a walk: an accepted plan, a source in it, the pair's hops, and room for them in a buffer. A caller has
-- excluded the causes 1 to 9.
pub record Listable (bs : List ℕ) (q : Pair) (b : List ℕ) : Type 0 where
  pub accepted : plan_fault bs q.stations q.slots ≡ 0
  pub source : q.source < q.stations
  pub fewest : q.hops ≡ hops (list_in bs q)
  pub path : q.hops < 65535
  pub room : q.slots ≤ length b

-- what finding the first walk asks
pub record Startable (bs : List ℕ) (q : Pair) (l b : List ℕ) : Type 0 where
  pub listable : Listable bs q b
  pub table : Table bs q.stations q.slots (terms_in q) q.destination l

-- what advancing the first k entries asks: they begin a shortest walk
pub record Advancable (bs : List ℕ) (q : Pair) (l : List ℕ) (k : ℕ) (b : List ℕ) : Type 0 where
  pub listable : Listable bs q b
  pub table : Table bs q.stations q.slots (terms_in q) q.destination l
  pub legs : k ≤ q.hops
  pub standing : begins bs q (take k b) ≡ true

-- whether a buffer begins with a member of the complete list
abbrev pub is_offered : List ℕ → Pair → List ℕ → Bool
is_offered bs q b = holds (index_in (list_in bs q) b) (λ i. true)

-- what finding the next walk asks: the buffer begins with a shortest walk
pub record Continuable (bs : List ℕ) (q : Pair) (l b : List ℕ) : Type 0 where
  pub listable : Listable bs q b
  pub table : Table bs q.stations q.slots (terms_in q) q.destination l
  pub offered : is_offered bs q b ≡ true

-- The buffer is moved from the member of a list with which it begins to the next one; on the last it stays.
pub record Stepped (l : List (List ℕ)) (old : List ℕ) (r : Bool) (new : List ℕ) : Type 0 where
  pub next : (i : ℕ) → index_in l old ≡ some i
      → (r ≡ ltb (i + 1) (length l)) × (new ≡ cond (ltb (i + 1) (length l)) (over (get_or l (i + 1) []) old) old)
