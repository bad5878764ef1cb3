-- What the functions that judge a list of positions ask, and what they answer. Definitions only.
-- Assumes nothing.
use Rattle.std.specs.Prelude.{ℕ, zero, suc, ◌+◌, ◌*◌, ◌≤◌, ◌<◌, ◌≡◌, Bool, true, false, List, [], ◌∷◌, ◌++◌, ◌≢◌, length, get_or, take}
use Rattle.temporal.specs.Shortest.{hops}
use Rattle.temporal.specs.Cause.{plan_fault}
use Rattle.temporal.specs.Verdict.{Verdict, complete, beginning, wrong, joined}
use Rattle.ways.specs.declared.Pair.{Pair}
use Rattle.ways.specs.Home.{Table}
use Rattle.ways.specs.Found.{terms_in, list_in}
use Rattle.judging.specs.declared.Judgement.{Judgement}
use Rattle.judging.specs.declared.Judgement.TheVariants as judgement

-- a Boolean tells whether something holds
pub record Tells (r : Bool) (P : Type 0) : Type 0 where
  pub yes : r ≡ true → P
  pub no : r ≡ false → P → ⊥

-- A pair with a walk and a completion table: an accepted plan, a source in it, the pair's hops. A caller has excluded the causes 1 to
-- 9, 12 and 14, and source and destination differ.
pub record Judgeable (bs : List ℕ) (q : Pair) (l : List ℕ) : Type 0 where
  pub accepted : plan_fault bs q.stations q.slots ≡ 0
  pub source : q.source < q.stations
  pub fewest : q.hops ≡ hops (list_in bs q)
  pub path : q.hops < 65535
  pub some_hops : 0 < q.hops
  pub table : Table bs q.stations q.slots (terms_in q) q.destination l

-- besides, a way that has an entry for each leg
pub record WayJudgeable (bs : List ℕ) (q : Pair) (l w : List ℕ) : Type 0 where
  pub pair : Judgeable bs q l
  pub room : q.hops ≤ length w

-- besides, leg k of the pair's
pub record LegJudgeable (bs : List ℕ) (q : Pair) (l : List ℕ) (k : ℕ) (w : List ℕ) : Type 0 where
  pub pair : Judgeable bs q l
  pub leg : k < q.hops
  pub room : q.hops ≤ length w

-- i is the first position from a given one on that passes a test behind w
pub record FirstBehind (t : List ℕ → Bool) (w : List ℕ) (from i : ℕ) : Type 0 where
  pub low : from ≤ i
  pub serves : t (w ++ i ∷ []) ≡ true
  pub first : (m : ℕ) → from ≤ m → t (w ++ m ∷ []) ≡ true → i ≤ m

-- where the search for leg k begins: behind the leg before it, since positions of a way rise
unfoldable pub search_from : List ℕ → ℕ → ℕ
search_from w zero = 0
search_from w (suc k) = get_or w k 0 + 1

-- none from a given one on does
pub record NoneBehind (t : List ℕ → Bool) (w : List ℕ) (from : ℕ) : Type 0 where
  pub no_position : (m : ℕ) → from ≤ m → t (w ++ m ∷ []) ≡ true → ⊥

-- how many first entries of two ways are the same, of h
pub record Alike (h : ℕ) (a b : List ℕ) (r : ℕ) : Type 0 where
  pub within : r ≤ h
  pub alike : take r a ≡ take r b
  pub differ : r < h → get_or a r 0 ≢ get_or b r 0

-- the verdict that an answer says
unfoldable pub verdict_of : Judgement → Verdict
verdict_of judgement.Complete = complete
verdict_of judgement.Beginning = beginning
verdict_of judgement.Wrong = wrong

-- a list of one way or more, whole ones by their length, for a pair that can be judged
pub record WaysJudgeable (bs : List ℕ) (q : Pair) (l e : List ℕ) : Type 0 where
  pub pair : Judgeable bs q l
  pub ways : ℕ
  pub whole : length e ≡ suc ways * q.hops

-- the entries are the first ways of a list, at least one
pub record FirstWays (l : List (List ℕ)) (e : List ℕ) : Type 0 where
  pub last : ℕ
  pub inside : last < length l
  pub ways : e ≡ joined (take (suc last) l)

-- the entries are no first ways of a list, of whatever number
abbrev pub NoFirstWays : List (List ℕ) → List ℕ → Type 0
NoFirstWays l e = (i : ℕ) → i ≤ length l → e ≡ joined (take i l) → ⊥

-- a Boolean tells whether the entries are first ways of a list
pub record Continued (l : List (List ℕ)) (e : List ℕ) (r : Bool) : Type 0 where
  pub yes : r ≡ true → FirstWays l e
  pub no : r ≡ false → NoFirstWays l e
